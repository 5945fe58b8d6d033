-- The replies to records, one record after another.
use Rattle.std.proofs.Common.{◌≡◌, ℕ, zero, suc, List, [], ◌∷◌, ◌++◌, take, drop, refl, sym, ap, ◌∙◌, append_assoc}
use Rattle.std.proofs.lemmas.List.{append-nil}
use Rattle.cube_core.specs.Arrival.{Arrivals}
use Rattle.cube_core.specs.Layout.{Layout}
use Rattle.cube_live.specs.Request.{request_of}
use Rattle.cube_live.specs.Session.{AreReplies, IsReply, arrivals_after, arrivals_with}

-- the arrival list after records, and after more
pub arrivals_after-append : (s : Layout) (start : Arrivals) (some more : List (List (List ℕ)))
    → arrivals_after s start (some ++ more) ≡ arrivals_after s (arrivals_after s start some) more
arrivals_after-append s start [] more = refl
arrivals_after-append s start (fields ∷ some) more = arrivals_after-append s (arrivals_with s start fields) some more

-- the replies to records, followed by those to more from the list after them
pub AreReplies-append : (s : Layout) (start : Arrivals) (some more : List (List (List ℕ))) (first second : List ℕ)
    → AreReplies s start some first → AreReplies s (arrivals_after s start some) more second
    → AreReplies s start (some ++ more) (first ++ second)
AreReplies-append s start [] more first second none rest = rw none rest
AreReplies-append s start (fields ∷ some) more first second are rest = (
  are.0,
  are.1 ++ second,
  ap (λ text. text ++ second) are.2 ∙ append_assoc are.0 are.1 second,
  are.3,
  AreReplies-append s (arrivals_with s start fields) some more are.1 second are.4 rest,
)

-- the reply to one record more
pub AreReplies-more : (s : Layout) (start : Arrivals) (some : List (List (List ℕ))) (fields : List (List ℕ))
    (text reply : List ℕ)
    → AreReplies s start some text → IsReply s (arrivals_after s start some) (request_of s fields) reply
    → AreReplies s start (some ++ fields ∷ []) (text ++ reply)
AreReplies-more s start some fields text reply are is =
    AreReplies-append s start some (fields ∷ []) text reply are (reply, [], sym (append-nil reply), is, refl)

-- the first records and the next
pub take-next : {A : Type 0} (count : ℕ) (records : List A) (next : A) (rest : List A)
    → drop count records ≡ next ∷ rest
    → (take (suc count) records ≡ take count records ++ next ∷ []) × (drop (suc count) records ≡ rest)
take-next zero [] next rest is = cc is
take-next zero (r ∷ records) next rest is = let both = is in (cc both, cc both)
take-next (suc count) [] next rest is = cc is
take-next (suc count) (r ∷ records) next rest is =
    let later = take-next count records next rest is in
    (ap (λ l. r ∷ l) later.0, later.1)
