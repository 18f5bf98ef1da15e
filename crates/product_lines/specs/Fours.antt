-- Four places of a line at once: each is summed in its own order.
use Prim.Native.Nat.{ℕ, ◌+◌, ◌-◌, ◌*◌, ◌≤◌, ◌<◌, min}
use Rattle.std.specs.Prelude.{List, [], ◌∷◌, ◌≡◌, refl, length, get_or, set}
use Rattle.std.proofs.Math.Path.{sym, ap}
use Rattle.std.proofs.Common.{◌∙◌, Fits}
use native.Mathlib.Omega.{arith}
use Rattle.std.specs.Int.{w64}
use Rattle.std.specs.Float.Ieee.{Float, add, mul}
use Rattle.std.specs.Float.{nan, binary64}
use Rattle.lists.specs.Table.{Filled, filled_more}
use Rattle.lists.specs.Walk.{walk, walk_split, Walked, walked_none, walked_more, walked_end}
use Rattle.model.specs.Refusals.{zero_f}
use Rattle.model.specs.General.{lo, steps, term, line}
use Rattle.product_lines.specs.Added.{line_added, line-more}

-- every place that the terms from a up to b of the place k read is there; nx and ny are the lengths of the lists
pub record Summing (k a b nx ny : ℕ) : Type 0 where
  pub below : b ≤ k + 1
  pub left : b ≤ nx
  pub right : k < a + ny

-- the terms from a up to b of the four places from k on are there
pub record Abreast (k a b nx ny : ℕ) : Type 0 where
  pub ordered : a ≤ b
  pub below : b ≤ k + 1
  pub left : b ≤ nx
  pub right : k + 3 < a + ny
  pub small : k + 3 < 64

-- a turn over j and j + 1: what it reads is there (x and y), and its numbers are small (j and i)
pub record Near (k j nx ny : ℕ) : Type 0 where
  pub below : j ≤ k
  pub above : 1 ≤ k - j
  pub j0 : j < 100
  pub j1 : j + 1 < 100
  pub j2 : j + 2 < 100
  pub x0 : j < nx
  pub x1 : j + 1 < nx
  pub i_1 : k - j - 1 < 100
  pub i0 : k - j < 100
  pub i1 : k - j + 1 < 100
  pub i2 : k - j + 2 < 100
  pub i3 : k - j + 3 < 100
  pub y_1 : k - j - 1 < ny
  pub y0 : k - j < ny
  pub y1 : k - j + 1 < ny
  pub y2 : k - j + 2 < ny
  pub y3 : k - j + 3 < ny

pub near : {k j nx ny : ℕ} → j + 1 ≤ k → j + 1 < nx → k + 3 < j + ny → k + 3 < 64 → Near k j nx ny
near p q r s =
    record {
      below = omega arith;
      above = omega arith;
      j0 = omega arith;
      j1 = omega arith;
      j2 = omega arith;
      x0 = omega arith;
      x1 = q;
      i_1 = omega arith;
      i0 = omega arith;
      i1 = omega arith;
      i2 = omega arith;
      i3 = omega arith;
      y_1 = omega arith;
      y0 = omega arith;
      y1 = omega arith;
      y2 = omega arith;
      y3 = omega arith;
    }

pub fits : {i : ℕ} → i < 100 → Fits w64 i
fits h = omega arith

pub fits_8 : {i : ℕ} → i < 100 → Fits w64 (i * 8)
fits_8 h = omega arith

-- the terms that the four places from k on share; n and m are the lengths of the left and the right
pub record Sharing (n m k a b nx ny : ℕ) : Type 0 where
  pub left : n ≤ nx
  pub right : m ≤ ny
  pub small : k + 3 < 64
  pub first : a ≡ lo m (k + 3)
  pub last : b ≡ min (k + 1) n
  pub shared : a ≤ b

pub record Walks (xs ys : List Float) (k a b : ℕ) (s z : List Float) : Type 0 where
  pub z0 : get_or z 0 nan ≡ walk (term xs ys k) (b - a) a (get_or s 0 nan)
  pub z1 : get_or z 1 nan ≡ walk (term xs ys (k + 1)) (b - a) a (get_or s 1 nan)
  pub z2 : get_or z 2 nan ≡ walk (term xs ys (k + 2)) (b - a) a (get_or s 2 nan)
  pub z3 : get_or z 3 nan ≡ walk (term xs ys (k + 3)) (b - a) a (get_or s 3 nan)

-- each place with its terms from k on
pub record Ends (xs ys : List Float) (k : ℕ) (s z : List Float) : Type 0 where
  pub z0 : get_or z 0 nan ≡ walk (term xs ys k) 1 k (get_or s 0 nan)
  pub z1 : get_or z 1 nan ≡ walk (term xs ys (k + 1)) 2 k (get_or s 1 nan)
  pub z2 : get_or z 2 nan ≡ walk (term xs ys (k + 2)) 3 k (get_or s 2 nan)
  pub z3 : get_or z 3 nan ≡ walk (term xs ys (k + 3)) 4 k (get_or s 3 nan)

pub record Lines (xs ys : List Float) (n m k : ℕ) (z : List Float) : Type 0 where
  pub z0 : get_or z 0 nan ≡ line xs ys n m k
  pub z1 : get_or z 1 nan ≡ line xs ys n m (k + 1)
  pub z2 : get_or z 2 nan ≡ line xs ys n m (k + 2)
  pub z3 : get_or z 3 nan ≡ line xs ys n m (k + 3)

-- a line by its first and last term
pub line-by : (xs ys : List Float) (n m k : ℕ) {f t : ℕ} {z : Float} → f ≡ lo m k → t ≡ min (k + 1) n
    → z ≡ walk (term xs ys k) (t - f) f zero_f → z ≡ line xs ys n m k
unfolding line
line-by xs ys n m k {f} {t} ef et e =
    e ∙ (ap (λ (j : ℕ). walk (term xs ys k) (j - f) f zero_f) et
    ∙ ap (λ (j : ℕ). walk (term xs ys k) (min (k + 1) n - j) j zero_f) ef)

-- what a loop over the shared terms has come to: from a on to j, each place from its own start
pub record Walking (xs ys : List Float) (k a j : ℕ) (o0 o1 o2 o3 s0 s1 s2 s3 : Float) : Type 0 where
  pub w0 : Walked (term xs ys k) a j o0 s0
  pub w1 : Walked (term xs ys (k + 1)) a j o1 s1
  pub w2 : Walked (term xs ys (k + 2)) a j o2 s2
  pub w3 : Walked (term xs ys (k + 3)) a j o3 s3

pub walking-none : (xs ys : List Float) (k a : ℕ) (o0 o1 o2 o3 : Float) → Walking xs ys k a a o0 o1 o2 o3 o0 o1 o2 o3
walking-none xs ys k a o0 o1 o2 o3 =
    record {
      w0 = walked_none (term xs ys k) a o0;
      w1 = walked_none (term xs ys (k + 1)) a o1;
      w2 = walked_none (term xs ys (k + 2)) a o2;
      w3 = walked_none (term xs ys (k + 3)) a o3;
    }

-- one term more, and two: p is where it stands on the left, q and q' where on the right
module _ (xs ys : List Float) (h : ℕ) {a j p q : ℕ} {o s : Float} (w : Walked (term xs ys h) a j o s) where
  term-more : p ≡ j → q ≡ h - j → Walked (term xs ys h) a (j + 1) o (add binary64 s (mul binary64 (get_or xs p nan) (get_or ys q nan)))
  term-more e d = walked_more w (rw (e, d))

  term-two : {p' q' : ℕ} → p ≡ j → q ≡ h - j → p' ≡ j + 1 → q' ≡ h - (j + 1)
      → Walked (term xs ys h) a (j + 2) o (add binary64 (add binary64 s (mul binary64 (get_or xs p nan) (get_or ys q nan)))
      (mul binary64 (get_or xs p' nan) (get_or ys q' nan)))
  term-two e d e' d' = let i : j + 1 + 1 ≡ j + 2 = omega arith in rw (← i) (walked_more (term-more e d) (rw (e', d')))

module _ {xs ys : List Float} {k a j : ℕ} {o0 o1 o2 o3 s0 s1 s2 s3 : Float} (w : Walking xs ys k a j o0 o1 o2 o3 s0 s1 s2 s3) where
  pub walking-more : j ≤ k → Walking xs ys k a (j + 1) o0 o1 o2 o3
      (add binary64 s0 (mul binary64 (get_or xs j nan) (get_or ys (k - j) nan)))
      (add binary64 s1 (mul binary64 (get_or xs j nan) (get_or ys (k - j + 1) nan)))
      (add binary64 s2 (mul binary64 (get_or xs j nan) (get_or ys (k - j + 2) nan)))
      (add binary64 s3 (mul binary64 (get_or xs j nan) (get_or ys (k - j + 3) nan)))
  walking-more h =
      record {
        w0 = term-more xs ys k w.w0 refl refl;
        w1 = term-more xs ys (k + 1) w.w1 refl (omega arith);
        w2 = term-more xs ys (k + 2) w.w2 refl (omega arith);
        w3 = term-more xs ys (k + 3) w.w3 refl (omega arith);
      }

  pub walking-two : j + 1 ≤ k → Walking xs ys k a (j + 2) o0 o1 o2 o3
      (add binary64 (add binary64 s0 (mul binary64 (get_or xs j nan) (get_or ys (k - j) nan))) (mul binary64 (get_or xs (j + 1) nan)
      (get_or ys (k - j - 1) nan)))
      (add binary64 (add binary64 s1 (mul binary64 (get_or xs j nan) (get_or ys (k - j + 1) nan))) (mul binary64 (get_or xs (j + 1) nan)
      (get_or ys (k - j) nan)))
      (add binary64 (add binary64 s2 (mul binary64 (get_or xs j nan) (get_or ys (k - j + 2) nan))) (mul binary64 (get_or xs (j + 1) nan)
      (get_or ys (k - j + 1) nan)))
      (add binary64 (add binary64 s3 (mul binary64 (get_or xs j nan) (get_or ys (k - j + 3) nan))) (mul binary64 (get_or xs (j + 1) nan)
      (get_or ys (k - j + 2) nan)))
  walking-two h =
      record {
        w0 = term-two xs ys k w.w0 refl refl refl (omega arith);
        w1 = term-two xs ys (k + 1) w.w1 refl (omega arith) refl (omega arith);
        w2 = term-two xs ys (k + 2) w.w2 refl (omega arith) refl (omega arith);
        w3 = term-two xs ys (k + 3) w.w3 refl (omega arith) refl (omega arith);
      }

pub walking_end : {xs ys : List Float} {k a j b : ℕ} (s : List Float) {s0 s1 s2 s3 : Float}
    → Walking xs ys k a j (get_or s 0 nan) (get_or s 1 nan) (get_or s 2 nan) (get_or s 3 nan) s0 s1 s2 s3 → j ≡ a + (b - a)
    → Walks xs ys k a b s (s0 ∷ s1 ∷ s2 ∷ s3 ∷ [])
walking_end {a = a} {b = b} s w e =
    record { z0 = walked_end (b - a) w.w0 e; z1 = walked_end (b - a) w.w1 e; z2 = walked_end (b - a) w.w2 e; z3 = walked_end (b - a) w.w3 e }

-- and one term more
one-step : (f : ℕ → Float → Float) (j : ℕ) (y : Float) → walk f (j + 1 - j) j y ≡ f j y
unfolding walk
one-step f j y = let e : j + 1 - j ≡ 1 = omega arith in ap (λ (n : ℕ). walk f n j y) e

pub walking-last : {xs ys : List Float} {k a j b : ℕ} (s : List Float) {s0 s1 s2 s3 : Float} {z : List Float}
    → Walking xs ys k a j (get_or s 0 nan) (get_or s 1 nan) (get_or s 2 nan) (get_or s 3 nan) s0 s1 s2 s3
    → Walks xs ys k j (j + 1) (s0 ∷ s1 ∷ s2 ∷ s3 ∷ []) z → j + 1 ≡ a + (b - a) → Walks xs ys k a b s z
walking-last {xs} {ys} {k} {a} {j} {b} s w z e =
    record {
      z0 = walked_end (b - a) (walked_more w.w0 (z.z0 ∙ one-step (term xs ys k) j _)) e;
      z1 = walked_end (b - a) (walked_more w.w1 (z.z1 ∙ one-step (term xs ys (k + 1)) j _)) e;
      z2 = walked_end (b - a) (walked_more w.w2 (z.z2 ∙ one-step (term xs ys (k + 2)) j _)) e;
      z3 = walked_end (b - a) (walked_more w.w3 (z.z3 ∙ one-step (term xs ys (k + 3)) j _)) e;
    }

-- a line in three parts: up to a, from a to b, from b on
module _ (xs ys : List Float) (n m k : ℕ) where
  parts : {a b : ℕ} {x y z : Float} → lo m k ≤ a → a ≤ b → b ≤ min (k + 1) n
      → x ≡ walk (term xs ys k) (a - lo m k) (lo m k) zero_f → y ≡ walk (term xs ys k) (b - a) a x
      → z ≡ walk (term xs ys k) (min (k + 1) n - b) b y → z ≡ line xs ys n m k
  unfolding line
  parts {a} {b} {x} {y} {z} p q r ex ey ez =
      let f : ℕ → Float → Float = term xs ys k in
      let l : ℕ = lo m k in
      let i : l + (a - l) ≡ a = omega arith in
      let e1 : walk f (a - l + (b - a)) l zero_f ≡ y =
      walk_split f (a - l) (b - a) l zero_f ∙ (ap (λ (j : ℕ). walk f (b - a) j (walk f (a - l) l zero_f)) i ∙ (ap (walk f (b - a) a) (sym ex) ∙ sym ey)) in
      let i2 : l + (a - l + (b - a)) ≡ b = omega arith in
      let e2 : walk f (a - l + (b - a) + (min (k + 1) n - b)) l zero_f ≡ z =
      walk_split f (a - l + (b - a)) (min (k + 1) n - b) l zero_f
      ∙ (ap (λ (j : ℕ). walk f (min (k + 1) n - b) j (walk f (a - l + (b - a)) l zero_f)) i2 ∙ (ap (walk f (min (k + 1) n - b) b) e1 ∙ sym ez)) in
      let i3 : a - l + (b - a) + (min (k + 1) n - b) ≡ steps n m k = omega arith in
      sym e2 ∙ ap (λ (j : ℕ). walk f j l zero_f) i3

module _ {n m k a b nx ny : ℕ} (s : Sharing n m k a b nx ny) where
  -- the place h is one of the four
  pub head_in : {h f : ℕ} → k ≤ h → h ≤ k + 3 → f ≡ lo m h → Summing h f a nx ny
  head_in p q e = record { below = omega arith; left = omega arith; right = omega arith }

  pub tail_in : {h t : ℕ} → k ≤ h → h ≤ k + 3 → t ≡ min (h + 1) n → Summing h b t nx ny
  tail_in p q e = record { below = omega arith; left = omega arith; right = omega arith }

  pub shared_in : Abreast k a b nx ny
  shared_in = record { ordered = s.shared; below = omega arith; left = omega arith; right = omega arith; small = s.small }

  part_of_lem : (xs ys : List Float) (h : ℕ) {f t : ℕ} {x y z : Float} → k ≤ h → h ≤ k + 3 → f ≡ lo m h → t ≡ min (h + 1) n
      → x ≡ walk (term xs ys h) (a - f) f zero_f → y ≡ walk (term xs ys h) (b - a) a x
      → z ≡ walk (term xs ys h) (t - b) b y → z ≡ line xs ys n m h
  part_of_lem xs ys h {f} {t} {x} {y} {z} p q ef et ex ey ez =
      parts xs ys n m h (omega arith) s.shared (omega arith)
      (ex ∙ ap (λ (j : ℕ). walk (term xs ys h) (a - j) j zero_f) ef) ey (ez ∙ ap (λ (j : ℕ). walk (term xs ys h) (j - b) b y) et)

  pub four-lines : (xs ys : List Float) {f0 f1 f2 t1 t2 t3 : ℕ} {x0 x1 x2 z1 z2 z3 : Float} (y : List Float)
      → f0 ≡ lo m k → x0 ≡ walk (term xs ys k) (a - f0) f0 zero_f
      → f1 ≡ lo m (k + 1) → x1 ≡ walk (term xs ys (k + 1)) (a - f1) f1 zero_f
      → f2 ≡ lo m (k + 2) → x2 ≡ walk (term xs ys (k + 2)) (a - f2) f2 zero_f
      → Walks xs ys k a b (x0 ∷ x1 ∷ x2 ∷ zero_f ∷ []) y
      → t1 ≡ min (k + 1 + 1) n → z1 ≡ walk (term xs ys (k + 1)) (t1 - b) b (get_or y 1 nan)
      → t2 ≡ min (k + 2 + 1) n → z2 ≡ walk (term xs ys (k + 2)) (t2 - b) b (get_or y 2 nan)
      → t3 ≡ min (k + 3 + 1) n → z3 ≡ walk (term xs ys (k + 3)) (t3 - b) b (get_or y 3 nan)
      → Lines xs ys n m k (get_or y 0 nan ∷ z1 ∷ z2 ∷ z3 ∷ [])
  four-lines xs ys y a0 e0 a1 e1 a2 e2 w b1 g1 b2 g2 b3 g3 =
      record {
        z0 = part_of_lem xs ys k (omega arith) (omega arith) a0 s.last e0 w.z0 (walked_none (term xs ys k) b (get_or y 0 nan)).is;
        z1 = part_of_lem xs ys (k + 1) (omega arith) (omega arith) a1 b1 e1 w.z1 g1;
        z2 = part_of_lem xs ys (k + 2) (omega arith) (omega arith) a2 b2 e2 w.z2 g2;
        z3 = part_of_lem xs ys (k + 3) (omega arith) (omega arith) s.first b3 (walked_none (term xs ys (k + 3)) a zero_f).is w.z3 g3;
      }

-- the last terms, one after the other
module _ (xs ys : List Float) (k : ℕ) (s : List Float) where
  abbrev x·y : ℕ → ℕ → Float
  x·y p q = mul binary64 (get_or xs p nan) (get_or ys q nan)

  start : (h : ℕ) (o : Float) → Walked (term xs ys h) k k o o
  start h o = walked_none (term xs ys h) k o

  pub ends : Ends xs ys k s
      (add binary64 (get_or s 0 nan) (x·y k 0)
      ∷ add binary64 (add binary64 (get_or s 1 nan) (x·y k 1)) (x·y (k + 1) 0)
      ∷ add binary64 (add binary64 (add binary64 (get_or s 2 nan) (x·y k 2)) (x·y (k + 1) 1)) (x·y (k + 2) 0)
      ∷ add binary64 (add binary64 (add binary64 (add binary64 (get_or s 3 nan) (x·y k 3)) (x·y (k + 1) 2)) (x·y (k + 2) 1)) (x·y (k + 3) 0)
      ∷ [])
  ends =
      record {
        z0 = walked_end 1 (term-more xs ys k (start k (get_or s 0 nan)) refl (omega arith)) (omega arith);
        z1 = walked_end 2 (term-two xs ys (k + 1) (start (k + 1) (get_or s 1 nan)) refl (omega arith) refl (omega arith)) (omega arith);
        z2 =
            walked_end 3 (term-more xs ys (k + 2) (term-two xs ys (k + 2) (start (k + 2) (get_or s 2 nan)) refl
            (omega arith) refl (omega arith)) refl (omega arith)) (omega arith);
        z3 =
            walked_end 4 (term-two xs ys (k + 3) (term-two xs ys (k + 3) (start (k + 3) (get_or s 3 nan)) refl
            (omega arith) refl (omega arith)) refl (omega arith) (omega arith) (omega arith))
            (omega arith);
      }

-- lines of which all terms from the first place on are there
module _ (xs ys : List Float) (k : ℕ) {s z : List Float} (w : Walks xs ys k 0 k (zero_f ∷ zero_f ∷ zero_f ∷ zero_f ∷ []) s) (e : Ends xs ys k s z) where
  whole : (n m h i : ℕ) {y x : Float} → h + 1 ≡ k + i → h < n → h < m → y ≡ walk (term xs ys h) (k - 0) 0 zero_f
      → x ≡ walk (term xs ys h) i k y → x ≡ line xs ys n m h
  whole n m h i {y} {x} d p q ey ex =
      let f : ℕ → Float → Float = term xs ys h in
      let l : lo m h ≡ 0 = omega arith in
      let t : i ≡ min (h + 1) n - k = omega arith in
      parts xs ys n m h {a = 0} {b = k} (omega arith) (omega arith) (omega arith)
      (rw l (walked_none f 0 zero_f).is) ey (ex ∙ ap (λ (j : ℕ). walk f j k y) t)

  pub whole-lines : (n m : ℕ) → k + 3 < n → k + 3 < m → Lines xs ys n m k z
  whole-lines n m p q =
      record {
        z0 = whole n m k 1 (omega arith) (omega arith) (omega arith) w.z0 e.z0;
        z1 = whole n m (k + 1) 2 (omega arith) (omega arith) (omega arith) w.z1 e.z1;
        z2 = whole n m (k + 2) 3 (omega arith) (omega arith) (omega arith) w.z2 e.z2;
        z3 = whole n m (k + 3) 4 (omega arith) p q w.z3 e.z3;
      }

-- one place, and four places, with their sums added
abbrev pub put : List Float → ℕ → Float → List Float
put out i z = set out i (add binary64 (get_or out i nan) z)

abbrev pub put_four : List Float → ℕ → List Float → List Float
put_four out k z = put (put (put (put out k (get_or z 0 nan)) (k + 1) (get_or z 1 nan)) (k + 2) (get_or z 2 nan)) (k + 3) (get_or z 3 nan)

module _ (xs ys : List Float) (n m : ℕ) where
  put-more : {i j : ℕ} {old out : List Float} {z : Float} → Filled i (line_added xs ys n m old) old out → i < length old
      → z ≡ line xs ys n m i → i + 1 ≡ j → Filled j (line_added xs ys n m old) old (put out i z)
  put-more f h e q = rw (← q) (filled_more f (line-more xs ys n m f h e) h)

  pub four_more_lem : {k : ℕ} {old out z : List Float} → Filled k (line_added xs ys n m old) old out → k + 3 < length old → Lines xs ys n m k z
      → Filled (k + 4) (line_added xs ys n m old) old (put_four out k z)
  four_more_lem f h l =
      put-more (put-more (put-more (put-more f (omega arith) l.z0 (omega arith)) (omega arith) l.z1 (omega arith))
      (omega arith) l.z2 (omega arith)) (omega arith) l.z3 (omega arith)
