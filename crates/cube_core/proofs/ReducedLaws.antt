-- Two numbers, each divided by their greatest common divisor, are a fraction in lowest terms.
use Rattle.std.proofs.Common.{ℕ, ◌*◌, ◌/◌, ◌<◌, ◌≤◌, ap, subst, arith}
use Prim.Native.Nat.{◌∣◌}
use Rattle.std.specs.Int.{IsGcd}
use Rattle.std.proofs.Math.Nat.{dvd-mul_right, div-mul_cancel, pos_of_dvd_of_pos}
use Rattle.cube_core.specs.Wide.{IsReduced}
use Rattle.cube_core.proofs.CommonDivisorLaws.{IsGcd-divided}

pub IsReduced-IsGcd : (n d g : ℕ) → 1 ≤ d → IsGcd n d g → IsReduced n d (n / g) (d / g)
IsReduced-IsGcd n d g some h =
    let positive : 0 < g = pos_of_dvd_of_pos h.1 some in
    record {
      some = omega arith;
      positive = pos_of_dvd_of_pos (subst (λ k. d / g ∣ k) (div-mul_cancel g h.1) (dvd-mul_right (d / g) g)) some;
      coprime = IsGcd-divided n d g positive h;
      equal = omega (
        arith,
        ap (λ k. n / g * k) (div-mul_cancel g h.1),
        ap (λ k. k * (d / g)) (div-mul_cancel g h.0),
      );
    }
