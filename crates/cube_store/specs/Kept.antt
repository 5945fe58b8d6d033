-- What a contract sees of a journal.
use Rattle.std.specs.Prelude.{ℕ, refl}
use Rattle.std.specs.Coded.{Coded, code_by, coded×, coded_ℕ}

-- A store of changes with two counts: the changes so far, and those of them that are committed
-- (this project's choice).
pub record CountedStore (S : Type 0) : Type 0 where
  pub store : S
  pub count : ℕ
  pub committed : ℕ

-- A journal as a triple.
abbrev pub kept_code : {S : Type 0} → Coded S → Coded (CountedStore S)
kept_code {S} store =
    code_by (S × (ℕ × ℕ)) (coded× store (coded× coded_ℕ coded_ℕ))
    (λ kept. (kept.store, (kept.count, kept.committed)))
    (λ parts. record { store = parts.0; count = parts.1.0; committed = parts.1.1 }) (λ _. refl)
