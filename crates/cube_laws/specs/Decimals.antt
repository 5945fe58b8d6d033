-- The words of the laws on numbers with digits behind a point (this project's choice).
use Rattle.std.specs.Prelude.{◌≡◌, pos, negsuc, [], ◌∷◌, Some, codes}
use Rattle.cube_core.specs.Plain.{in_units}
use Rattle.cube_core.specs.Text.{answer_text, fraction_text, signed_units_text}
use Rattle.cube_core.specs.declared.aggregate.Answer.TheVariants.{Squares, Values, Variance}

-- numbers of two digits behind a point, in units of a hundredth, and fields that stay, since they are none: one that would
-- have to be rounded, those without a digit before or behind the point, one in powers of ten, one with a comma between
-- thousands
pub record AreReadSo : Type 0 where
  pub two : in_units (Some 2) 46 (codes "19.20") ≡ codes "1920"
  pub one : in_units (Some 2) 46 (codes "19.2") ≡ codes "1920"
  pub whole : in_units (Some 2) 46 (codes "19") ≡ codes "1900"
  pub below_zero : in_units (Some 2) 46 (codes "-0.05") ≡ codes "-005"
  pub zeros : in_units (Some 2) 46 (codes "+1.5000") ≡ codes "+150"
  pub comma : in_units (Some 2) 44 (codes "19,2") ≡ codes "1920"
  pub no_digits : in_units (Some 0) 46 (codes "21.0") ≡ codes "21"
  pub not_rounded : in_units (Some 2) 46 (codes "19.205") ≡ codes "19.205"
  pub nothing_before : in_units (Some 2) 46 (codes ".5") ≡ codes ".5"
  pub nothing_behind : in_units (Some 2) 46 (codes "5.") ≡ codes "5."
  pub power : in_units (Some 2) 46 (codes "1e3") ≡ codes "1e3"
  pub thousands : in_units (Some 2) 46 (codes "1,000") ≡ codes "1,000"

-- numbers of hundredths as they are printed, the mean of three whose sum is 24.50, a sum of squares and a variance, in
-- units of a hundredth of a hundredth, and values, with how often each is held
pub record ArePrintedSo : Type 0 where
  pub two : signed_units_text 2 (pos 1920) ≡ codes "19.20"
  pub below_zero : signed_units_text 2 (negsuc 4) ≡ codes "-0.05"
  pub zero_itself : signed_units_text 2 (pos 0) ≡ codes "0.00"
  pub whole : signed_units_text 0 (pos 1920) ≡ codes "1920"
  pub mean : fraction_text 2 (pos 2450) 3 ≡ codes "49/6"
  pub squares : answer_text 2 (Squares 1920) ≡ codes "0.1920"
  pub variance : answer_text 2 (Variance 5000 3) ≡ codes "1/6"
  pub values : answer_text 2 (Values ((pos 150, 2) ∷ (pos 300, 1) ∷ [])) ≡ codes "1.50*2 3.00*1"
  pub whole_values : answer_text 0 (Values ((negsuc 1, 1) ∷ (pos 5, 3) ∷ [])) ≡ codes "-2*1 5*3"
  pub no_values : answer_text 2 (Values []) ≡ []
