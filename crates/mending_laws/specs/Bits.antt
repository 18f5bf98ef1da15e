-- Document 02, W14, and its reading: every other bit of every kept word stays. The new word is the old one with exactly
-- the spare bits and the unused fields cleared; no bit is ever set; mending a mended word changes nothing.
use Rattle.std.specs.Prelude.{ℕ, ◌+◌, ◌*◌, ◌/◌, ◌%◌, ◌^◌, ◌≤◌, ◌<◌, Bool, true, false, ◌≡◌, refl, leb, eqb}
use Rattle.std.proofs.Common.{sym, ◌∙◌, subst, mod-lt, shr-shr, eqb-true, leb-true}
use Rattle.std.proofs.Math.Path.{ap}
use native.Mathlib.Omega.{arith}
use Rattle.std.specs.Int.Bits.{bit_and, and_self, and_zero_l}
use Rattle.std.proofs.lemmas.Nat.{and_block}
use Rattle.std.proofs.Math.Pow.{shl-shr, split}
use Rattle.lists.specs.Test.{decide}
use Rattle.model.specs.Word.{header_of, good_word}
use Rattle.shape_words.specs.Sound.{word_sound}
use Rattle.model_recipes.specs.declared.Step.{Step}
use Rattle.model_recipes.specs.declared.Uses.{Uses}
use Rattle.model_recipes.specs.Steps.{step_of, spare_of, step_fields, word_of_step, uses_of}
use Rattle.recipes_kinds.specs.Packed.{Fields, step_fields_lem, unpack-pack, pack_unpack}
use Rattle.model_mending.specs.Words.{word_one_spare, header_spare, without, mended_one, mended_header, if_used, used_fields, mended_step, mended_word}
use Rattle.mending.specs.Words.{used_fields_lem, step-refused, step_used}

-- ---- the last n bits cleared

module _ (w : ℕ) where
  -- what stands above the spare bits stays, and they are zero
  pub one-keeps : mended_one w / 2 ^ word_one_spare ≡ w / 2 ^ word_one_spare
  unfolding mended_one
  one-keeps = shl-shr (w / 2 ^ word_one_spare) word_one_spare

  pub one-clear : mended_one w % 2 ^ word_one_spare ≡ 0
  unfolding mended_one
  one-clear = omega arith

  pub header-keeps : mended_header w / 2 ^ header_spare ≡ w / 2 ^ header_spare
  unfolding mended_header
  header-keeps = shl-shr (w / 2 ^ header_spare) header_spare

  pub header-clear : mended_header w % 2 ^ header_spare ≡ 0
  unfolding mended_header
  header-clear = omega arith

  -- a word without spare bits stays as it is
  pub one_fixed : w % 2 ^ word_one_spare ≡ 0 → mended_one w ≡ w
  unfolding mended_one
  one_fixed z = omega (arith, z)

  pub header_fixed : w % 2 ^ header_spare ≡ 0 → mended_header w ≡ w
  unfolding mended_header
  header_fixed z = omega (arith, z)

  one-most : mended_one w ≤ w
  unfolding mended_one
  one-most = omega arith

  header-most : mended_header w ≤ w
  unfolding mended_header
  header-most = omega arith

-- a word that is a header has no spare bits, and no cap as long as none may have one
pub header-low : (w : ℕ) → good_word w ≡ true → w % 2 ^ header_spare ≡ 0
unfolding header_of
header-low w e =
    let s = word_sound w e in
    let a : w % 2 ^ 5 ≡ 0 = eqb-true (w % 2 ^ 5) 0 s.spare in
    let c : w / 2 ^ 5 % 2 ^ 8 ≤ 0 = leb-true (w / 2 ^ 5 % 2 ^ 8) 0 s.low in
    omega (arith, a, c, shr-shr w 5 8)

-- ---- steps

used-again : (u : Bool) (x : ℕ) → if_used u (if_used u x) ≡ if_used u x
used-again true x = refl
used-again false x = refl

fields-again : (u : Uses) (s : Step) → used_fields u (used_fields u s) ≡ used_fields u s
fields-again u s =
    λ i. record {
      kind = s.kind;
      a = used-again u.a s.a i;
      b = used-again u.b s.b i;
      variable = used-again u.variable s.variable i;
      n = used-again u.n s.n i;
    }

-- a word whose fields are those of x, of a kind that there is
of_fields : (w : ℕ) {x : Step} → step_of w ≡ x → (uses_of x.kind).kind ≡ true → mended_step w ≡ word_of_step (used_fields (uses_of x.kind) x)
of_fields w e k = sym (step_used w (sym e) refl refl refl refl refl k refl)

word_small : (s : Step) → Fields s → word_of_step s < 2 ^ 64
unfolding word_of_step step_fields
word_small s f = omega (arith, f.kind, f.a, f.b, f.variable, f.n)

module _ (w : ℕ) where
  abbrev uses : Uses
  uses = uses_of (step_of w).kind

  abbrev kept : Step
  kept = used_fields uses (step_of w)

  kept-fields : Fields kept
  kept-fields = used_fields_lem uses (step_fields_lem w)

  -- a refused kind: every bit stays
  pub refused-keeps : uses.kind ≡ false → mended_step w ≡ w
  refused-keeps e = sym (step-refused w refl refl e)

  module _ (e : uses.kind ≡ true) where
    mended-is : mended_step w ≡ word_of_step kept
    mended-is = of_fields w refl e

    -- any other: the fields that it uses stay, and the others and the spare bits are zero
    pub step_keeps : step_of (mended_step w) ≡ kept
    step_keeps = ap step_of mended-is ∙ unpack-pack kept kept-fields

    pub step_clear : spare_of (mended_step w) ≡ 0
    unfolding word_of_step
    step_clear = ap spare_of mended-is ∙ omega arith

    again_used : mended_step (mended_step w) ≡ mended_step w
    again_used =
        of_fields (mended_step w) step_keeps e ∙ (ap word_of_step (fields-again uses (step_of w)) ∙ sym mended-is)

  step-again : mended_step (mended_step w) ≡ mended_step w
  step-again = decide uses.kind again_used (λ e. ap mended_step (refused-keeps e))

  step_small : w < 2 ^ 64 → mended_step w < 2 ^ 64
  step_small h =
      decide uses.kind
      (λ e. subst (λ (x : ℕ). x < 2 ^ 64) (sym (mended-is e)) (word_small kept kept-fields))
      (λ e. subst (λ (x : ℕ). x < 2 ^ 64) (sym (refused-keeps e)) h)

  -- a step that has nothing to mend
  pub step_fixed : w < 2 ^ 64 → uses.kind ≡ true → kept ≡ step_of w → spare_of w ≡ 0 → mended_step w ≡ w
  step_fixed h e k z = mended-is e ∙ (ap word_of_step k ∙ (pack_unpack w h ∙ omega (arith, z)))

-- ---- no bit is ever set

-- every bit of a is one of b's
record Inside (a b : ℕ) : Type 0 where
  pub is : bit_and a b ≡ a

-- one block of m bits more
block : (m : ℕ) {a b r s : ℕ} → Inside a b → r < 2 ^ m → s < 2 ^ m → Inside r s → Inside (a * 2 ^ m + r) (b * 2 ^ m + s)
block m {a} {b} {r} {s} e f g h = record { is = and_block m a b r s f g ∙ rw (e.is, h.is) }

itself : (x : ℕ) → Inside x x
itself x = record { is = and_self x }

nothing : (x : ℕ) → Inside 0 x
nothing x = record { is = and_zero_l x }

used_in : (u : Bool) (x : ℕ) → Inside (if_used u x) x
used_in true x = itself x
used_in false x = nothing x

cleared_in : (m w : ℕ) → 0 < 2 ^ m → bit_and (without m w) w ≡ without m w
cleared_in m w p =
    let z : without m w + 0 ≡ without m w = omega arith in
    let l : w % 2 ^ m < 2 ^ m = mod-lt w p in
    let b = block m (itself (w / 2 ^ m)) p l (nothing (w % 2 ^ m)) in
    ap (λ (x : ℕ). bit_and (without m w) x) (sym (split w m))
    ∙ (ap (λ (x : ℕ). bit_and x (w / 2 ^ m * 2 ^ m + w % 2 ^ m)) (sym z) ∙ (b.is ∙ z))

module _ (w : ℕ) (h : w < 2 ^ 64) where
  fields_in : bit_and (word_of_step (kept w)) w ≡ word_of_step (kept w)
  unfolding word_of_step step_fields
  fields_in =
      let s : Step = step_of w in
      let u : Uses = uses w in
      let f = step_fields_lem w in
      let g = kept-fields w in
      let ka = block 6 (itself s.kind) g.a f.a (used_in u.a s.a) in
      let kb = block 6 ka g.b f.b (used_in u.b s.b) in
      let kv = block 2 kb g.variable f.variable (used_in u.variable s.variable) in
      let kn = block 32 kv g.n f.n (used_in u.n s.n) in
      let kz = block 14 kn (omega arith) (mod-lt w (omega arith)) (nothing (spare_of w)) in
      let z : word_of_step (kept w) + 0 ≡ word_of_step (kept w) = omega arith in
      let y : word_of_step s + spare_of w ≡ w = omega (arith, pack_unpack w h) in
      ap (λ (x : ℕ). bit_and (word_of_step (kept w)) x) (sym y)
      ∙ (ap (λ (x : ℕ). bit_and x (word_of_step s + spare_of w)) (sym z) ∙ (kz.is ∙ z))

  step_in_lem : bit_and (mended_step w) w ≡ mended_step w
  step_in_lem =
      decide (uses w).kind
      (λ e. ap (λ (x : ℕ). bit_and x w) (mended-is w e) ∙ (fields_in ∙ sym (mended-is w e)))
      (λ e. ap (λ (x : ℕ). bit_and x w) (refused-keeps w e) ∙ (and_self w ∙ sym (refused-keeps w e)))

-- ---- the word of any line

module _ (inputs count k w : ℕ) where
  by_place : (P : ℕ → Type 0) → P (mended_one w) → P (mended_header w) → P w → P (mended_step w) → P (mended_word inputs count k w)
  unfolding mended_word
  by_place P a b c d =
      decide (eqb k 0) (λ e. rw e a)
      (λ e. rw e (decide (leb k inputs) (λ f. rw f b) (λ f. rw f (decide (leb k (inputs + count)) (λ g. rw g c) (λ g. rw g d)))))

  module _ (h : w < 2 ^ 64) where
    pub word-most : mended_word inputs count k w < 2 ^ 64
    word-most = by_place (λ (x : ℕ). x < 2 ^ 64) (omega (arith, one-most w)) (omega (arith, header-most w)) h (step_small w h)

    -- no bit is ever set
    pub never-set : bit_and (mended_word inputs count k w) w ≡ mended_word inputs count k w
    unfolding mended_one mended_header
    never-set =
        by_place (λ (x : ℕ). bit_and x w ≡ x) (cleared_in word_one_spare w (omega arith)) (cleared_in header_spare w (omega arith))
        (and_self w) (step_in_lem w h)

-- what is mended stays
pub word-again : (inputs count k w : ℕ) → mended_word inputs count k (mended_word inputs count k w) ≡ mended_word inputs count k w
unfolding mended_word
word-again inputs count k w =
    decide (eqb k 0) (λ e. rw e (one_fixed (mended_one w) (one-clear w)))
    (λ e. rw e
    (decide (leb k inputs) (λ f. rw f (header_fixed (mended_header w) (header-clear w)))
    (λ f. rw f (decide (leb k (inputs + count)) (λ g. rw g) (λ g. rw g (step-again w))))))
