-- Where a cube stands after stored changes.
use Rattle.std.proofs.Common.{◌≡◌, ◌∙◌, inl, inr, ℕ, [], ◌∷◌, List, false, refl, sym, ap, subst}
use Rattle.std.specs.Prelude.{None, Some, Option, unwrap_or}
use Rattle.std.specs.Option.{is_some}
use Rattle.cube_core.specs.Arrival.{Arrivals, of_source}
use Rattle.cube_core.specs.Layout.{Layout}
use Rattle.cube_store.specs.Rows.{Entry}
use Rattle.cube_store.specs.State.{LeadsTo, stored_in}
use Rattle.sqlite_trees.specs.View.{View}
use Rattle.cube_live.specs.Live.{LiveView, LiveStandsAt, last_number}
use Rattle.cube_store_commands.specs.Replay.{PassesLast, ReplayView, TakesBehind, TakesStored, TakesWithin}
use Rattle.cube_store_commands.specs.Replay.{arrivals_by_stored, arrivals_from}
use Rattle.cube_store_commands.specs.Serving.{HasTooMany}

-- the schema stays
pub LeadsTo-schema : (before after : LiveView) (changes : List Entry) → LeadsTo TakesStored before changes after
    → after.schema ≡ before.schema
LeadsTo-schema before after [] same = subst (λ (l : LiveView). l.schema ≡ before.schema) same refl
LeadsTo-schema before after (change ∷ changes) taken = LeadsTo-schema taken.0 after changes taken.2 ∙ taken.1.schema

-- and the cube stands after them
pub LeadsTo-stands : (before after : LiveView) (changes : List Entry) → LeadsTo TakesStored before changes after
    → (arrivals : Arrivals) → LiveStandsAt before arrivals
    → LiveStandsAt after (arrivals_from before.schema arrivals changes)
LeadsTo-stands before after [] same arrivals stands = subst (λ (l : LiveView). LiveStandsAt l arrivals) same stands
LeadsTo-stands before after (change ∷ changes) taken arrivals stands =
    subst (λ (s : Layout). LiveStandsAt after (arrivals_from s
    (arrivals_by_stored before.schema arrivals change) changes))
    taken.1.schema
    (LeadsTo-stands taken.0 after changes taken.2 (arrivals_by_stored before.schema arrivals change)
    (taken.1.stands arrivals stands))

-- ---- changes past the last that the schema takes

-- what has passed the last takes nothing more
over-stays : (before after : ReplayView) (changes : List Entry) (source : ℕ) → before.over ≡ Some source
    → LeadsTo TakesWithin before changes after → after.over ≡ Some source
over-stays before after [] source over same = subst (λ (r : ReplayView). r.over ≡ Some source) same over
over-stays before after (change ∷ changes) source over taken =
    let step = subst (λ (o : Option ℕ). TakesBehind o before.live change taken.0) over taken.1 in
    over-stays taken.0 after changes source (ap (λ (r : ReplayView). r.over) step) taken.2

-- nothing is none and some
none-some : (over : Option ℕ) (source : ℕ) → over ≡ None → over ≡ Some source → ⊥
none-some over source none some = cc

-- one step where nothing has passed the last: the change was taken, and so are those behind it
within-step : (old : LiveView) (after next : ReplayView) (change : Entry) (changes : List Entry) → after.over ≡ None
    → LeadsTo TakesWithin next changes after → (next.over ≡ None → LeadsTo TakesStored next.live changes after.live)
    → TakesBehind None old change next → LeadsTo TakesStored old (change ∷ changes) after.live
within-step old after next change changes ended rest later (inl step) = (next.live, step.1, later step.0)
within-step old after next change changes ended rest later (inr step) =
    absurd (none-some after.over change.0 ended (over-stays next after changes change.0 step.0 rest))

-- what hasn't has taken each change
pub LeadsTo-within : (before after : ReplayView) (changes : List Entry) → before.over ≡ None → after.over ≡ None
    → LeadsTo TakesWithin before changes after → LeadsTo TakesStored before.live changes after.live
LeadsTo-within before after [] none ended same = ap (λ (r : ReplayView). r.live) same
LeadsTo-within before after (change ∷ changes) none ended taken =
    within-step before.live after taken.0 change changes ended taken.2
    (λ (unpassed : taken.0.over ≡ None). LeadsTo-within taken.0 after changes unpassed ended taken.2)
    (subst (λ (o : Option ℕ). TakesBehind o before.live change taken.0) none taken.1)

-- one step before what was one too many of its source
passes-step : (old : LiveView) (after next : ReplayView) (change : Entry) (changes : List Entry) (source : ℕ)
    → after.over ≡ Some source → LeadsTo TakesWithin next changes after → (start : Arrivals) → LiveStandsAt old start
    → (next.over ≡ None → (arrivals : Arrivals) → LiveStandsAt next.live arrivals
    → PassesLast next.live.schema arrivals changes source)
    → TakesBehind None old change next → PassesLast old.schema start (change ∷ changes) source
passes-step old after next change changes source ended rest start stands later (inl step) =
    let arrivals = arrivals_by_stored old.schema start change in
    let passes : PassesLast old.schema arrivals changes source =
    subst (λ (s : Layout). PassesLast s arrivals changes source) step.1.schema
    (later step.0 arrivals (step.1.stands start stands)) in
    record {
      before = change ∷ passes.before;
      change = passes.change;
      behind = passes.behind;
      parts = ap (λ (l : List Entry). change ∷ l) passes.parts;
      of_it = passes.of_it;
      read = passes.read;
      full = passes.full;
    }
passes-step old after next change changes source ended rest start stands later (inr step) =
    let same : change.0 ≡ source =
    ap (λ (o : Option ℕ). unwrap_or o 0) (sym (over-stays next after changes change.0 step.0 rest) ∙ ended) in
    record {
      before = [];
      change = change;
      behind = changes;
      parts = refl;
      of_it = same;
      read = step.1.read;
      full = subst (λ (n : ℕ). last_number (of_source start n) ≡ old.schema.max_records) same
          (sym (stands.numbers change.0 step.1.first step.1.last) ∙ step.1.full);
    }

-- and what has met one too many of its source
pub LeadsTo-over : (before after : ReplayView) (changes : List Entry) (source : ℕ) → before.over ≡ None
    → after.over ≡ Some source → LeadsTo TakesWithin before changes after → (start : Arrivals)
    → LiveStandsAt before.live start → PassesLast before.live.schema start changes source
LeadsTo-over before after [] source none ended same start stands =
    absurd (none-some before.over source none (ap (λ (r : ReplayView). r.over) same ∙ ended))
LeadsTo-over before after (change ∷ changes) source none ended taken start stands =
    passes-step before.live after taken.0 change changes source ended taken.2 start stands
    (λ (unpassed : taken.0.over ≡ None) (arrivals : Arrivals) (at : LiveStandsAt taken.0.live arrivals).
    LeadsTo-over taken.0 after changes source unpassed ended taken.2 arrivals at)
    (subst (λ (o : Option ℕ). TakesBehind o before.live change taken.0) none taken.1)

-- what hasn't passed the last takes a change so
pub behind-none : (over : Option ℕ) → is_some over ≡ false → (old new : LiveView) (change : Entry)
    → TakesStored old change new → TakesBehind over old change (record { live = new; over = over })
behind-none None off old new change taken = inl (refl, taken)
behind-none (Some source) off old new change taken = absurd (cc)

-- ---- a start over a store

-- what began at a cube has taken the changes that a start handed over, which are those of the store
module _ (live : LiveView) (was now : View) (begun after : ReplayView)
    (begins : begun.live ≡ live) (none : begun.over ≡ None) (stored : stored_in now ≡ stored_in was)
    (taken : LeadsTo TakesWithin begun (stored_in now) after) where
  all : LeadsTo TakesWithin begun (stored_in was) after
  all = subst (λ (es : List Entry). LeadsTo TakesWithin begun es after) stored taken

  -- the cube has taken them where none followed the last of its source
  pub resumed : (ended : LiveView) → after.over ≡ None → ended ≡ after.live
      → LeadsTo TakesStored live (stored_in was) ended
  resumed ended within is =
      subst (λ (l : LiveView). LeadsTo TakesStored l (stored_in was) ended) begins
      (subst (λ (l : LiveView). LeadsTo TakesStored begun.live (stored_in was) l) (sym is)
      (LeadsTo-within begun after (stored_in was) none within all))

  -- and else there are too many of that source
  pub too-many : (source : ℕ) → after.over ≡ Some source → HasTooMany live was source
  too-many source over = λ start stands.
      subst (λ (l : LiveView). PassesLast l.schema start (stored_in was) source) begins
      (LeadsTo-over begun after (stored_in was) source none over all start
      (subst (λ (l : LiveView). LiveStandsAt l start) (sym begins) stands))
