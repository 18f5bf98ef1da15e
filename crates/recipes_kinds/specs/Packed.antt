-- Step words: unpacking a packed step gives it back, and packing an unpacked word gives the word back, its spare bits
-- cleared.
use Rattle.std.specs.Prelude.{ℕ, ◌+◌, ◌-◌, ◌*◌, ◌/◌, ◌%◌, ◌^◌, ◌<◌, ◌≡◌}
use Rattle.std.proofs.Common.{sym, ap, ◌∙◌, shr-shr, shr_lt, mod-eq_of_lt, div-add-mod'}
use native.Mathlib.Omega.{arith}
use Rattle.std.specs.Int.Bits.{bit_or, or_shifted}
use Rattle.std.proofs.lemmas.Nat.{shl-shr}
use Rattle.std.proofs.Math.Pow.{shl_exact}
use Rattle.std.proofs.Math.Arith.{digits_div, digits_mod}
use Rattle.model_recipes.specs.declared.Step.{Step}
use Rattle.model_recipes.specs.Steps.{step_of, spare_of, step_fields, word_of_step}

-- every field fits its bits
pub record Fields (s : Step) : Type 0 where
  pub kind : s.kind < 2 ^ 4
  pub a : s.a < 2 ^ 6
  pub b : s.b < 2 ^ 6
  pub variable : s.variable < 2 ^ 2
  pub n : s.n < 2 ^ 32

pub step_fields_lem : (w : ℕ) → Fields (step_of w)
unfolding step_of
step_fields_lem w = record { kind = omega arith; a = omega arith; b = omega arith; variable = omega arith; n = omega arith }

-- fields side by side
module _ (s : Step) (f : Fields s) where
  pub joined : bit_or (bit_or (bit_or (bit_or (s.kind * 2 ^ 60 % 2 ^ 64) (s.a * 2 ^ 54 % 2 ^ 64)) (s.b * 2 ^ 48 % 2 ^ 64))
      (s.variable * 2 ^ 46 % 2 ^ 64)) (s.n * 2 ^ 14 % 2 ^ 64) ≡ word_of_step s
  unfolding word_of_step step_fields
  joined =
      let k = s.kind in
      let a = s.a in
      let b = s.b in
      let v = s.variable in
      let n = s.n in
      let ka : bit_or (k * 2 ^ 60) (a * 2 ^ 54) ≡ (k * 2 ^ 6 + a) * 2 ^ 54 = or_shifted k 60 (a * 2 ^ 54) (omega (arith, f.a)) ∙ omega arith in
      let kb : bit_or ((k * 2 ^ 6 + a) * 2 ^ 54) (b * 2 ^ 48) ≡ ((k * 2 ^ 6 + a) * 2 ^ 6 + b) * 2 ^ 48 =
      or_shifted (k * 2 ^ 6 + a) 54 (b * 2 ^ 48) (omega (arith, f.b)) ∙ omega arith in
      let kv : bit_or (((k * 2 ^ 6 + a) * 2 ^ 6 + b) * 2 ^ 48) (v * 2 ^ 46) ≡ (((k * 2 ^ 6 + a) * 2 ^ 6 + b) * 2 ^ 2 + v) * 2 ^ 46 =
      or_shifted ((k * 2 ^ 6 + a) * 2 ^ 6 + b) 48 (v * 2 ^ 46) (omega (arith, f.variable)) ∙ omega arith in
      let kn : bit_or ((((k * 2 ^ 6 + a) * 2 ^ 6 + b) * 2 ^ 2 + v) * 2 ^ 46) (n * 2 ^ 14) ≡ step_fields s * 2 ^ 14 =
      or_shifted (((k * 2 ^ 6 + a) * 2 ^ 6 + b) * 2 ^ 2 + v) 46 (n * 2 ^ 14) (omega (arith, f.n)) ∙ omega arith in
      rw (
        shl_exact {a = k} 4 60 64 f.kind (omega arith),
        shl_exact {a = a} 6 54 64 f.a (omega arith),
        shl_exact {a = b} 6 48 64 f.b (omega arith),
        shl_exact {a = v} 2 46 64 f.variable (omega arith),
        shl_exact {a = n} 32 14 64 f.n (omega arith),
        ka,
        kb,
        kv,
      ) kn

-- one field of m bits off the low end, and on
down : (w j m : ℕ) {r x : ℕ} → w / 2 ^ j ≡ r * 2 ^ m + x → x < 2 ^ m → (w / 2 ^ (j + m) ≡ r) × (w / 2 ^ j % 2 ^ m ≡ x)
down w j m {r} e l =
    (sym (shr-shr w j m) ∙ (ap (λ (y : ℕ). y / 2 ^ m) e ∙ digits_div r l), ap (λ (y : ℕ). y % 2 ^ m) e ∙ digits_mod r l)

up : (w j m : ℕ) → w / 2 ^ (j + m) * 2 ^ m + w / 2 ^ j % 2 ^ m ≡ w / 2 ^ j
up w j m = rw (← shr-shr w j m) (div-add-mod' (w / 2 ^ j) (2 ^ m))

-- unpack after pack
pub unpack-pack : (s : Step) → Fields s → step_of (word_of_step s) ≡ s
unfolding step_of word_of_step step_fields
unpack-pack s f =
    let w : ℕ = word_of_step s in
    let n = down w 14 32 (shl-shr (step_fields s) 14) f.n in
    let v = down w 46 2 n.0 f.variable in
    let b = down w 48 6 v.0 f.b in
    let a = down w 54 6 b.0 f.a in
    let k : w / 2 ^ 60 % 2 ^ 4 ≡ s.kind = ap (λ (y : ℕ). y % 2 ^ 4) a.0 ∙ mod-eq_of_lt f.kind in
    λ i. record { kind = k i; a = a.1 i; b = b.1 i; variable = v.1 i; n = n.1 i }

-- pack after unpack
pub pack_unpack : (w : ℕ) → w < 2 ^ 64 → word_of_step (step_of w) ≡ w - spare_of w
unfolding step_of word_of_step step_fields
pack_unpack w fit =
    let k : w / 2 ^ 60 % 2 ^ 4 ≡ w / 2 ^ 60 = mod-eq_of_lt (shr_lt 4 60 fit) in
    let d : step_fields (step_of w) ≡ w / 2 ^ 14 = simp (k, up w 54 6, up w 48 6, up w 46 2, up w 14 32) in
    ap (λ (n : ℕ). n * 2 ^ 14) d ∙ omega arith

-- a word whose spare bits are zero
pub pack-formed : (w : ℕ) → w < 2 ^ 64 → spare_of w ≡ 0 → word_of_step (step_of w) ≡ w
pack-formed w fit z = pack_unpack w fit ∙ omega (arith, z)
