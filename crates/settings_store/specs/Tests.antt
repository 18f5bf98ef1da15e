-- What the test of a store's words and a call's tests say.
use Rattle.std.specs.Prelude.{ℕ, zero, suc, ◌+◌, ◌-◌, ◌%◌, ◌≤◌, ◌<◌, Bool, true, false, ◌&&◌, cond, not, List, ◌≡◌, refl, length, leb, ltb, eqb}
use Rattle.std.proofs.Common.{true≢false, sym, ap, ◌∙◌, arith, ltb-true, leb-true, eqb-true, le-ltb}
use Rattle.std.proofs.lemmas.Bool.{eqb-false, not-true, not-false}
use Rattle.lists.specs.Test.{and_left, and_right, decide}
use Rattle.lists.specs.Every.{every}
use Rattle.model_settings.specs.declared.Content.{Content}
use Rattle.model_settings.specs.Store.{last_version, blank, fresh_content, in_range, good_chance, kept}
use Rattle.model_settings.specs.Words.{slot_at, held_at, same_content, good_slot, good_department, valid, version_of}

pub yes : {r b : Bool} → r ≡ b → not r ≡ false → b ≡ true
yes {r} e h = sym e ∙ not-false r h

pub no : {r b : Bool} → r ≡ b → not r ≡ true → b ≡ false
no {r} e h = sym e ∙ not-true r h

pub every-at : (f : ℕ → Bool) (n p q : ℕ) → every f n p ≡ true → p ≤ q → q < p + n → f q ≡ true
unfolding every
every-at f zero p q e h l = absurd (omega arith)
every-at f (suc n) p q e h l =
    decide (eqb p q)
    (λ t. ap f (sym (eqb-true p q t)) ∙ and_left (f p) (every f n (suc p)) e)
    (λ t. every-at f n (suc p) q (and_right (f p) (every f n (suc p)) e) (lower t) (omega arith))
  where
    lower : eqb p q ≡ false → suc p ≤ q
    lower t = omega (arith, eqb-false p q t)

-- the parts of a content that is in range
pub record Ranged (c : Content) : Type 0 where
  pub chance : good_chance c.chance ≡ true
  pub low : 1 ≤ c.horizon
  pub high : c.horizon ≤ 255
  pub recipe : c.recipe ≤ 65535

pub ranged : (c : Content) → in_range c ≡ true → Ranged c
unfolding in_range
ranged c h =
    let t = leb 1 c.horizon in
    let u = leb c.horizon 255 in
    let x = leb c.recipe 65535 in
    let g = good_chance c.chance in
    let a = and_right g (t && (u && x)) h in
    let b = and_right t (u && x) a in
    record {
      chance = and_left g (t && (u && x)) h;
      low = leb-true _ _ (and_left t (u && x) a);
      high = leb-true _ _ (and_left u x b);
      recipe = leb-true _ _ (and_right u x b);
    }

pub same-fields : (a b : Content) → a.chance ≡ b.chance → a.horizon ≡ b.horizon → a.recipe ≡ b.recipe → a ≡ b
same-fields a b p q s =
    let made : ℕ → ℕ → ℕ → Content = λ x y z. record { chance = x; horizon = y; recipe = z } in
    ap (λ x. made x a.horizon a.recipe) p ∙
    (ap (λ y. made b.chance y a.recipe) q ∙ ap (λ z. made b.chance b.horizon z) s)

same_parts : (a b : Content) → same_content a b ≡ true → a ≡ b
unfolding same_content
same_parts a b h =
    let x = eqb a.chance b.chance in
    let y = eqb a.horizon b.horizon in
    let z = eqb a.recipe b.recipe in
    let r = and_right x (y && z) h in
    let p : a.chance ≡ b.chance = eqb-true _ _ (and_left x (y && z) h) in
    let q : a.horizon ≡ b.horizon = eqb-true _ _ (and_left y z r) in
    let s : a.recipe ≡ b.recipe = eqb-true _ _ (and_right y z r) in
    same-fields a b p q s

pub same_content_lem : (a b : Content) → same_content a b ≡ true → a ≡ b
same_content_lem = same_parts

pub kept-parts : (v u : ℕ) → kept v u ≡ true → (u ≤ v) × (v - u < 8)
unfolding kept
kept-parts v u h =
    (leb-true _ _ (and_left (leb u v) (ltb (v - u) 8) h), ltb-true _ _ (and_right (leb u v) (ltb (v - u) 8) h))

fresh-range : in_range fresh_content ≡ true
unfolding in_range good_chance
fresh-range = refl

pub valid-long : (w : List ℕ) → valid w ≡ true → 544 ≤ length w
unfolding valid
valid-long w h = leb-true _ _ (and_left (leb 544 (length w)) (every (good_department w) 32 0) h)

pub valid-department : (w : List ℕ) (d : ℕ) → valid w ≡ true → d < 32 → good_department w d ≡ true
unfolding valid
valid-department w d h l =
    every-at (good_department w) 32 0 d (and_right (leb 544 (length w)) (every (good_department w) 32 0) h)
    (omega arith) (omega arith)

pub valid-version : (w : List ℕ) (d : ℕ) → valid w ≡ true → d < 32 → version_of w d ≤ last_version
unfolding good_department
valid-version w d h l =
    leb-true _ _ (and_left (leb (version_of w d) last_version)
    (every (λ k. good_slot (version_of w d) (slot_at w d k) k) 8 0) (valid-department w d h l))

pub valid-slot :
    (w : List ℕ) (d k : ℕ) → valid w ≡ true → d < 32 → k < 8 → good_slot (version_of w d) (slot_at w d k) k ≡ true
unfolding good_department
valid-slot w d k h l j =
    let f : ℕ → Bool = λ k. good_slot (version_of w d) (slot_at w d k) k in
    every-at f 8 0 k (and_right (leb (version_of w d) last_version) (every f 8 0) (valid-department w d h l))
    (omega arith) (omega arith)

-- a made slot is in range
pub slot-made : (v : ℕ) (c : Content) (k : ℕ) → good_slot v c k ≡ true → k ≤ v → in_range c ≡ true
unfolding good_slot
slot-made v c k h l = go (ltb v k) (le-ltb _ _ l) (eqb k 0 && ltb v 8) h
  where
    go :
        (a : Bool) → a ≡ false → (b : Bool) → cond a (same_content c blank)
        (cond b (same_content c fresh_content) (in_range c)) ≡ true → in_range c ≡ true
    go true e b h = absurd (true≢false e)
    go false e true h = ap in_range (same_parts c fresh_content h) ∙ fresh-range
    go false e false h = h

pub held-range :
    (w : List ℕ) (d u : ℕ) → valid w ≡ true → d < 32 → kept (version_of w d) u ≡ true → in_range (held_at w d u) ≡ true
held-range w d u h l k =
    let p = kept-parts _ _ k in
    slot-made (version_of w d) (held_at w d u) (u % 8) (valid-slot w d (u % 8) h l (omega arith)) (omega arith)
