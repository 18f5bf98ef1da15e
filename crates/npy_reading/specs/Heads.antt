-- The header of a shape keeps the rules exactly where the shape is good.
use Rattle.std.specs.Prelude.{ℕ, zero, suc, ◌≤◌, ◌<◌, min, List, [], ◌∷◌, map, Bool, true, false, ◌&&◌, ◌≡◌, refl, leb, length, get_or}
use Rattle.std.proofs.Common.{sym, ap, ◌∙◌, arith, lit<, leb-true, le-leb}
use Rattle.std.proofs.Math.ListN.{get_or-eq_default}
use Rattle.lists.specs.Four.{at}
use Rattle.lists.specs.Test.{and_left, and_right}
use Rattle.model.specs.declared.Header.{Header}
use Rattle.model.specs.Header.{header, stored, good_header}
use Rattle.shape_words.specs.Rules.{GoodVar, Regular, Good, regular-four, ruled-at, header-good, header_ruled, header-most}
use Rattle.npy_grammar.specs.Reading.{cap}
use Rattle.npy_header.specs.declared.Shape.{Shape}
use Rattle.npy_header.specs.Shapes.{Kept}
use Rattle.npy_files.specs.Shapes.{all_in_range, product, good_shape, lengths_of, head_of}
use Rattle.npy_files.specs.Sizes.{good_cap_lem, product-count}
use Rattle.npy_files.specs.Once.{cap-all, good-range}

abbrev pub HeadKept : Shape → Header → Type 0
HeadKept s h = h ≡ header s.vars s.n s.n 0

pub in_range_lem : (s : List ℕ) → all_in_range s ≡ true → (k : ℕ) → (1 ≤ get_or s k 1) × (get_or s k 1 ≤ 64)
unfolding all_in_range
in_range_lem [] h k = (omega arith, omega arith)
in_range_lem (x ∷ s) h zero =
    let e = and_left (leb 1 x && leb x 64) (all_in_range s) h in
    (leb-true 1 x (and_left (leb 1 x) (leb x 64) e), leb-true x 64 (and_right (leb 1 x) (leb x 64) e))
in_range_lem (x ∷ s) h (suc k) = in_range_lem s (and_right (leb 1 x && leb x 64) (all_in_range s) h) k

pub range_in : (s : List ℕ) → ((k : ℕ) → k < length s → (1 ≤ get_or s k 1) × (get_or s k 1 ≤ 64)) → all_in_range s ≡ true
unfolding all_in_range
range_in [] h = refl
range_in (x ∷ s) h =
    let e = h 0 (omega arith) in
    rw (le-leb 1 x e.0, le-leb x 64 e.1, range_in s (λ k l. h (suc k) (omega arith)))

pub good-few : (s : List ℕ) → good_shape s ≡ true → length s ≤ 4
unfolding good_shape
good-few s h = leb-true (length s) 4 (and_left (leb (length s) 4) (all_in_range s) (and_left (leb (length s) 4 && all_in_range s) (leb (product s) 4096) h))

pub good-most : (s : List ℕ) → good_shape s ≡ true → product s ≤ 4096
unfolding good_shape
good-most s h = leb-true (product s) 4096 (and_right (leb (length s) 4 && all_in_range s) (leb (product s) 4096) h)

-- a good shape's header
module _ (s : List ℕ) (h : good_shape s ≡ true) where
  pub shape-regular : Regular (head_of s)
  shape-regular =
      let r = in_range_lem s (good-range s h) in
      regular-four (length s) (λ k. get_or s k 1) (λ k. get_or s k 1) (good-few s h) (omega arith)
      (λ k l.
      record {
        pos = (r k).0;
        fit = omega arith;
        most = (r k).1;
        gone = λ g. get_or-eq_default s 1 g;
      })

  pub shape-count : stored (head_of s) ≡ product s
  shape-count = sym (product-count s (good-few s h))

  pub shape-good : Good (head_of s)
  shape-good = record { regular = shape-regular; most = omega (arith, shape-count, good-most s h) }

-- the header as it is kept, more than four numbers as five
abbrev kept_head : List ℕ → Header
kept_head m = header (min (length m) 5) (lengths_of m) (lengths_of m) 0

kept-few : (m : List ℕ) → length m ≤ 4 → kept_head m ≡ head_of m
kept-few m l = let e : min (length m) 5 ≡ length m = omega arith in rw e

good-to : (m : List ℕ) → good_shape m ≡ true → good_header (kept_head m) ≡ true
good-to m h =
    let g = shape-good m h in
    rw (kept-few m (good-few m h)) (header-good g.regular.rules g.most)

good-from : (m : List ℕ) → good_header (kept_head m) ≡ true → good_shape m ≡ true
unfolding good_shape
good-from m h =
    let r = header_ruled (kept_head m) h in
    let few : length m ≤ 4 = omega (arith, r.few) in
    let at-k = ruled-at r in
    let range : all_in_range m ≡ true = range_in m (λ k l. in_four m (at-k) k (omega arith)) in
    let e : product m ≡ stored (kept_head m) = product-count m few in
    rw (le-leb (length m) 4 few, range, le-leb (product m) 4096 (omega (arith, e, header-most (kept_head m) h)))
  where
    in_four : (m : List ℕ) → ((k : ℕ) → k < 4 → GoodVar (min (length m) 5) k (at (lengths_of m) k) (at (lengths_of m) k))
        → (k : ℕ) → k < 4 → (1 ≤ get_or m k 1) × (get_or m k 1 ≤ 64)
    in_four m f zero l = ((f 0 (lit< tt)).pos, (f 0 (lit< tt)).most)
    in_four m f (suc zero) l = ((f 1 (lit< tt)).pos, (f 1 (lit< tt)).most)
    in_four m f (suc (suc zero)) l = ((f 2 (lit< tt)).pos, (f 2 (lit< tt)).most)
    in_four m f (suc (suc (suc zero))) l = ((f 3 (lit< tt)).pos, (f 3 (lit< tt)).most)
    in_four m f (suc (suc (suc (suc k)))) l = absurd (omega arith)

same_test : (a b : Bool) → (a ≡ true → b ≡ true) → (b ≡ true → a ≡ true) → a ≡ b
same_test true b f g = sym (f refl)
same_test false true f g = g refl
same_test false false f g = refl

module _ (l : List ℕ) {s : Shape} {h : Header} (k : Kept (map cap l) s) (e : HeadKept s h) where
  head-kept : h ≡ kept_head (map cap l)
  head-kept = e ∙ rw (k.vars, k.n)

  pub head-good : good_header h ≡ good_shape l
  head-good =
      ap good_header head-kept
      ∙ (same_test (good_header (kept_head (map cap l))) (good_shape (map cap l)) (good-from (map cap l)) (good-to (map cap l)) ∙ good_cap_lem l)

  -- a good one is the header of the shape itself
  pub head-is : good_shape l ≡ true → h ≡ head_of l
  head-is g = head-kept ∙ (ap kept_head (cap-all l (good-range l g)) ∙ kept-few l (good-few l g))
