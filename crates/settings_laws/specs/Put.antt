-- What stands where after a version was put into the words.
use Rattle.std.specs.Prelude.{ℕ, ◌+◌, ◌*◌, ◌/◌, ◌%◌, ◌≤◌, ◌<◌, List, ◌≡◌, length, set, drop, ltb}
use Rattle.std.proofs.Common.{ap, ◌∙◌, ltb-true, ltb-false}
use native.Mathlib.Omega.{arith}
use Rattle.std.proofs.Math.ListN.{length-set}
use Rattle.std.proofs.Math.Seq.{get_or-set_same, get_or-set_other, drop-set-lt}
use Rattle.lists.specs.Test.{decide}
use Rattle.model_settings.specs.declared.Content.{Content}
use Rattle.model_settings.specs.Words.{word, slot_at, version_of, packed, put}
use Rattle.settings_store.specs.Tests.{same-fields}

pub unpack-horizon : (h r : ℕ) → h ≤ 255 → (h + 256 * r) % 256 ≡ h
unpack-horizon h r l = omega arith

pub unpack-recipe : (h r : ℕ) → h ≤ 255 → (h + 256 * r) / 256 ≡ r
unpack-recipe h r l = omega arith

pub odd_even : (a b : ℕ) → 1 + 2 * a ≡ 2 + 2 * b → ⊥
odd_even a b p = decide (ltb b a) (λ t. omega (arith, ltb-true b a t)) (λ t. omega (arith, ltb-false b a t))

-- a place says its department, and its place there
pub same-department : (e d i j : ℕ) → i < 17 → j < 17 → e * 17 + i ≡ d * 17 + j → e ≡ d
same-department e d i j a b p =
    decide (ltb e d)
    (λ t. absurd (omega (arith, ltb-true e d t)))
    (λ t. decide (ltb d e) (λ u. absurd (omega (arith, ltb-true d e u)))
    (λ u. omega (arith, ltb-false e d t, ltb-false d e u)))

module _ (w : List ℕ) (d v : ℕ) (c : Content) (long : 544 ≤ length w) (low : d < 32) where
  abbrev one : List ℕ
  one = set w (d * 17) v

  abbrev two : List ℕ
  two = set one (d * 17 + 1 + 2 * (v % 8)) c.chance

  pub put-long : length (put w d v c) ≡ length w
  unfolding put
  put-long = simp length-set

  pub put-behind : drop 544 (put w d v c) ≡ drop 544 w
  unfolding put
  put-behind =
      drop-set-lt 544 two (d * 17 + 2 + 2 * (v % 8)) (packed c) (omega arith)
      ∙ (drop-set-lt 544 one (d * 17 + 1 + 2 * (v % 8)) c.chance (omega arith)
      ∙ drop-set-lt 544 w (d * 17) v (omega arith))

  pub put_other :
      (i : ℕ) → (i ≡ d * 17 → ⊥) → (i ≡ d * 17 + 1 + 2 * (v % 8) → ⊥) → (i ≡ d * 17 + 2 + 2 * (v % 8) → ⊥) → word
      (put w d v c) i ≡ word w i
  unfolding put
  put_other i p q r =
      get_or-set_other two (d * 17 + 2 + 2 * (v % 8)) i (packed c) 0 r
      ∙ (get_or-set_other one (d * 17 + 1 + 2 * (v % 8)) i c.chance 0 q ∙ get_or-set_other w (d * 17) i v 0 p)

  pub put_version_lem : version_of (put w d v c) d ≡ v
  unfolding put
  put_version_lem =
      get_or-set_other two (d * 17 + 2 + 2 * (v % 8)) (d * 17) (packed c) 0 (λ e. omega arith)
      ∙ (get_or-set_other one (d * 17 + 1 + 2 * (v % 8)) (d * 17) c.chance 0 (λ e. omega arith) ∙ get_or-set_same w
      (d * 17) v 0 (omega arith))

  put_chance_lem : word (put w d v c) (d * 17 + 1 + 2 * (v % 8)) ≡ c.chance
  unfolding put
  put_chance_lem =
      get_or-set_other two (d * 17 + 2 + 2 * (v % 8)) (d * 17 + 1 + 2 * (v % 8)) (packed c) 0 (λ e. omega arith)
      ∙ get_or-set_same one (d * 17 + 1 + 2 * (v % 8)) c.chance 0 (rw length-set (omega arith))

  put-packed : word (put w d v c) (d * 17 + 2 + 2 * (v % 8)) ≡ packed c
  unfolding put
  put-packed = get_or-set_same two (d * 17 + 2 + 2 * (v % 8)) (packed c) 0 (simp length-set (omega arith))

  pub put-slot : c.horizon ≤ 255 → slot_at (put w d v c) d (v % 8) ≡ c
  unfolding slot_at
  put-slot h =
      same-fields (slot_at (put w d v c) d (v % 8)) c put_chance_lem
      (ap (λ (z : ℕ). z % 256) put-packed ∙ unpack-horizon _ _ h)
      (ap (λ (z : ℕ). z / 256) put-packed ∙ unpack-recipe _ c.recipe h)

  -- another slot
  pub put_slots : (e k : ℕ) → k < 8 → (e ≡ d → k ≡ v % 8 → ⊥) → slot_at (put w d v c) e k ≡ slot_at w e k
  unfolding slot_at
  put_slots e k l n =
      let m : v % 8 < 8 = omega arith in
      let same : (i j : ℕ) → i < 17 → j < 17 → e * 17 + i ≡ d * 17 + j → e ≡ d = same-department e d in
      let a =
      put_other (e * 17 + 1 + 2 * k)
      (λ p. let q = same (1 + 2 * k) 0 (omega arith) (omega arith) (omega arith) in omega arith)
      (λ p. let q = same (1 + 2 * k) (1 + 2 * (v % 8)) (omega arith) (omega arith) (omega arith) in n q (omega arith))
      (λ p. let q = same (1 + 2 * k) (2 + 2 * (v % 8)) (omega arith) (omega arith) (omega arith) in odd_even k (v % 8)
      (omega arith)) in
      let b =
      put_other (e * 17 + 2 + 2 * k)
      (λ p. let q = same (2 + 2 * k) 0 (omega arith) (omega arith) (omega arith) in omega arith)
      (λ p. let q = same (2 + 2 * k) (1 + 2 * (v % 8)) (omega arith) (omega arith) (omega arith) in odd_even (v % 8) k
      (omega arith))
      (λ p. let q = same (2 + 2 * k) (2 + 2 * (v % 8)) (omega arith) (omega arith) (omega arith) in n q
      (omega arith)) in
      same-fields (slot_at (put w d v c) e k) (slot_at w e k) a (ap (λ (z : ℕ). z % 256) b) (ap (λ (z : ℕ). z / 256) b)

  pub put_versions_lem : (e : ℕ) → (e ≡ d → ⊥) → version_of (put w d v c) e ≡ version_of w e
  put_versions_lem e n =
      put_other (e * 17)
      (λ p. n (omega arith))
      (λ p. n (same-department e d 0 (1 + 2 * (v % 8)) (omega arith) (omega arith) (omega arith)))
      (λ p. n (same-department e d 0 (2 + 2 * (v % 8)) (omega arith) (omega arith) (omega arith)))
