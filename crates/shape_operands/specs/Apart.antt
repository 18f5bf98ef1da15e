-- Parts of a buffer that do not overlap.
use Rattle.std.specs.Prelude.{ℕ, ◌+◌, ◌≤◌, List, ◌⊎◌, ◌≡◌}
use Rattle.std.proofs.Common.{inl, inr, ⊎_elim, arith}
use Rattle.lists.specs.Part.{part, Kept, below-part, kept_above}

-- c places from o on, and d places from p on
pub record Apart (o c p d : ℕ) : Type 0 where
  pub either : o + c ≤ p ⊎ p + d ≤ o

pub apart_fewer : {o c m p d : ℕ} → Apart o c p d → m ≤ c → Apart o m p d
apart_fewer a l = record { either = ⊎_elim (λ h. inl (omega (arith, h, l))) inr a.either }

-- a part apart from the one written is as it was
pub kept-apart : {A : Type 0} {o c p d : ℕ} {xs w w' : List A} → Apart o c p d → Kept o (o + c) xs w w' → part p (p + d) w' ≡ part p (p + d) w
kept-apart {o = o} {c = c} {p = p} {d = d} a k =
    ⊎_elim (λ h. kept_above p (p + d) k h) (λ h. below-part p (p + d) k.below (omega arith) h) a.either
