-- What a start finds in a store.
use Rattle.std.proofs.Common.{◌≡◌, inl, inr, ◌∙◌, List, IsTrue, sym, ap}
use Rattle.sqlite_trees.specs.View.{View}
use Rattle.cube_store.specs.Rows.{Entry, entries_in}
use Rattle.cube_store.specs.State.{Starts, held_in, stored_in, noted_in, form_in, stored_form}

pub Starts-stored : (notes : List Entry) (was now : View) → Starts notes was now → stored_in now ≡ stored_in was
Starts-stored notes was now (inl makes) = makes.stored ∙ sym (ap entries_in makes.none_before.0)
Starts-stored notes was now (inr finds) = finds.0.stored

pub Starts-held : (notes : List Entry) (was now : View) → Starts notes was now → held_in now ≡ stored_in now
Starts-held notes was now (inl makes) = makes.held ∙ sym makes.stored
Starts-held notes was now (inr finds) = finds.0.held ∙ sym finds.0.stored

pub Starts-noted : (notes : List Entry) (was now : View) → Starts notes was now → noted_in now ≡ notes
Starts-noted notes was now (inl makes) = makes.noted
Starts-noted notes was now (inr finds) = finds.0.noted ∙ finds.1

pub Starts-open : (notes : List Entry) (was now : View) → Starts notes was now → IsTrue now.is_open
Starts-open notes was now (inl makes) = makes.is_open
Starts-open notes was now (inr finds) = finds.0.is_open

pub Starts-formed : (notes : List Entry) (was now : View) → Starts notes was now → form_in now ≡ stored_form was
Starts-formed notes was now (inl makes) = makes.form
Starts-formed notes was now (inr finds) = finds.0.form
