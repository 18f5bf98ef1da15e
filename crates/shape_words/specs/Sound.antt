-- A header word with nothing wrong (document 02, W5) is one whose header keeps the rules (document 01) and whose spare
-- bits are zero, and no other.
use Rattle.std.specs.Prelude.{ℕ, ◌%◌, ◌^◌, ◌≤◌, ◌<◌, Bool, false, ◌&&◌, ◌≡◌, refl, leb, ltb}
use Rattle.std.proofs.Math.Bool.{true}
use Rattle.std.proofs.Common.{sym, arith}
use Rattle.std.proofs.Math.Dec.{eqb}
use borrow.Author.Tests.{ltb-true, ltb-false, leb-true, le-leb, eqb-true, eq-eqb}
use Rattle.lists.specs.Test.{and_left, and_right, decide}
use Rattle.lists.specs.Four.{each}
use Rattle.model.specs.declared.Header.{Header}
use Rattle.model.specs.declared.Fault.{Fault}
use Rattle.model.specs.Cap.{most_cap}
use Rattle.model.specs.Header.{limit, len, stored, good_header}
use Rattle.model.specs.Faults.{unless, sound_var, var_fault, sound_end, header_fault}
use Rattle.model.specs.Word.{header_of, fault_of, good_word}
use Rattle.shape_words.specs.Rules.{GoodVar, Ruled, header-good, header_ruled, header-most}

-- the tests, s the spare bits
pub record Sound (h : Header) (s : ℕ) : Type 0 where
  pub few : leb h.vars 4 ≡ true
  pub v0 : sound_var h 0 ≡ true
  pub v1 : sound_var h 1 ≡ true
  pub v2 : sound_var h 2 ≡ true
  pub v3 : sound_var h 3 ≡ true
  pub spare : eqb s 0 ≡ true
  pub low : leb h.cap most_cap ≡ true
  pub most : leb (stored h) 4096 ≡ true

-- a chain that ends in no fault passed its test
pub unless-none : (b : Bool) (f next : Fault) → (f.cause ≡ 0 → ⊥) → (unless b f next).cause ≡ 0 → (b ≡ true) × (next.cause ≡ 0)
unless-none true f next n e = (refl, e)
unless-none false f next n e = absurd (n e)

-- a variable's fault has a cause
pub var_caused : (h : Header) (k : ℕ) → (var_fault h k).cause ≡ 0 → ⊥
var_caused h k = decide (ltb k h.vars) (λ t z. omega (arith, rw t at z)) (λ t z. omega (arith, rw t at z))

module _ (h : Header) (s : ℕ) where
  pub sound-tests : (header_fault h s).cause ≡ 0 → Sound h s
  unfolding header_fault
  sound-tests e =
      let a = unless-none (leb h.vars 4) _ _ (λ z. omega (arith, z)) e in
      let b = unless-none (sound_var h 0) (var_fault h 0) _ (var_caused h 0) a.1 in
      let c = unless-none (sound_var h 1) (var_fault h 1) _ (var_caused h 1) b.1 in
      let d = unless-none (sound_var h 2) (var_fault h 2) _ (var_caused h 2) c.1 in
      let f = unless-none (sound_var h 3) (var_fault h 3) _ (var_caused h 3) d.1 in
      let g = unless-none (sound_end h s) _ _ (λ z. omega (arith, z)) f.1 in
      let k = unless-none (leb (stored h) 4096) _ _ (λ z. omega (arith, z)) g.1 in
      record {
        few = a.0;
        v0 = b.0;
        v1 = c.0;
        v2 = d.0;
        v3 = f.0;
        spare = and_left (eqb s 0) (leb h.cap most_cap) g.0;
        low = and_right (eqb s 0) (leb h.cap most_cap) g.0;
        most = k.0;
      }

  pub tests-sound : Sound h s → (header_fault h s).cause ≡ 0
  unfolding header_fault
  tests-sound t = simp (t.few, t.v0, t.v1, t.v2, t.v3, t.spare, t.low, t.most)

-- ---- a variable, and what document 01 asks of it

-- limit and length of a word's variable are 1 to 64
pub record Fields (h : Header) (k : ℕ) : Type 0 where
  pub limit_pos : 1 ≤ limit h k
  pub limit_most : limit h k ≤ 64
  pub length_pos : 1 ≤ len h k
  pub length_most : len h k ≤ 64

pub fields : (w k : ℕ) → k < 4 → Fields (header_of w) k
unfolding header_of
fields w =
    each (Fields (header_of w))
    (record { limit_pos = omega arith; limit_most = omega arith; length_pos = omega arith; length_most = omega arith })
    (record { limit_pos = omega arith; limit_most = omega arith; length_pos = omega arith; length_most = omega arith })
    (record { limit_pos = omega arith; limit_most = omega arith; length_pos = omega arith; length_most = omega arith })
    (record { limit_pos = omega arith; limit_most = omega arith; length_pos = omega arith; length_most = omega arith })

module _ (h : Header) (k : ℕ) where
  pub sound_var_lem : Fields h k → sound_var h k ≡ true → GoodVar h.vars k (limit h k) (len h k)
  unfolding sound_var
  sound_var_lem f e =
      decide (ltb k h.vars)
      (λ t.
      let fit = leb-true _ _ (rw t at e) in
      record { pos = f.length_pos; fit = fit; most = f.limit_most; gone = λ g. absurd (omega (arith, ltb-true k h.vars t)) })
      (λ t.
      let g : (eqb (limit h k) 1 && eqb (len h k) 1) ≡ true = rw t at e in
      let l : limit h k ≡ 1 = eqb-true (limit h k) 1 (and_left (eqb (limit h k) 1) (eqb (len h k) 1) g) in
      let n : len h k ≡ 1 = eqb-true (len h k) 1 (and_right (eqb (limit h k) 1) (eqb (len h k) 1) g) in
      record { pos = f.length_pos; fit = omega (arith, l, n); most = f.limit_most; gone = λ _. l })

  pub var-sound : GoodVar h.vars k (limit h k) (len h k) → sound_var h k ≡ true
  unfolding sound_var
  var-sound g =
      decide (ltb k h.vars)
      (λ t. rw t (le-leb _ _ g.fit))
      (λ t.
      let l = g.gone (ltb-false _ _ t) in
      simp (t, eq-eqb (limit h k) 1 l, eq-eqb (len h k) 1 (omega (arith, l, g.pos, g.fit))))

-- ---- a word

module _ (w : ℕ) where
  pub word_sound : good_word w ≡ true → Sound (header_of w) (w % 2 ^ 5)
  unfolding good_word fault_of
  word_sound e = sound-tests _ _ (eqb-true (fault_of w).cause 0 e)

  pub sound-word : Sound (header_of w) (w % 2 ^ 5) → good_word w ≡ true
  unfolding good_word fault_of
  sound-word t = eq-eqb (fault_of w).cause 0 (tests-sound _ _ t)

  pub word_ruled : good_word w ≡ true → Ruled (header_of w)
  word_ruled e =
      let t = word_sound e in
      record {
        few = leb-true _ _ t.few;
        v0 = sound_var_lem (header_of w) 0 (fields w 0 (omega arith)) t.v0;
        v1 = sound_var_lem (header_of w) 1 (fields w 1 (omega arith)) t.v1;
        v2 = sound_var_lem (header_of w) 2 (fields w 2 (omega arith)) t.v2;
        v3 = sound_var_lem (header_of w) 3 (fields w 3 (omega arith)) t.v3;
        low = leb-true _ _ t.low;
      }

  ruled-word : Ruled (header_of w) → stored (header_of w) ≤ 4096 → w % 2 ^ 5 ≡ 0 → good_word w ≡ true
  ruled-word g m z =
      let h : Header = header_of w in
      sound-word (record {
        few = le-leb _ _ g.few;
        v0 = var-sound h 0 g.v0;
        v1 = var-sound h 1 g.v1;
        v2 = var-sound h 2 g.v2;
        v3 = var-sound h 3 g.v3;
        spare = eq-eqb (w % 2 ^ 5) 0 z;
        low = le-leb _ _ g.low;
        most = le-leb _ _ m;
      })

  -- document 01's test
  abbrev kept : Bool
  kept = good_header (header_of w) && eqb (w % 2 ^ 5) 0

  rules-good : kept ≡ true → good_word w ≡ true
  rules-good e =
      let g = and_left (good_header (header_of w)) (eqb (w % 2 ^ 5) 0) e in
      ruled-word (header_ruled (header_of w) g) (header-most (header_of w) g) (eqb-true _ _ (and_right (good_header (header_of w)) (eqb (w % 2 ^ 5) 0) e))

  good-rules : good_word w ≡ true → kept ≡ true
  good-rules e =
      let t = word_sound e in
      simp (header-good (word_ruled e) (leb-true _ _ t.most), t.spare)

  pub good_word-is : good_word w ≡ (good_header (header_of w) && eqb (w % 2 ^ 5) 0)
  good_word-is = same_test (good_word w) kept good-rules rules-good
    where
      same_test : (a b : Bool) → (a ≡ true → b ≡ true) → (b ≡ true → a ≡ true) → a ≡ b
      same_test true b f g = sym (f refl)
      same_test false true f g = g refl
      same_test false false f g = refl
