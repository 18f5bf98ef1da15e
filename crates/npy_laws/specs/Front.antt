-- A file whose header has at most 65,535 bytes is judged by its first 98,316 bytes: twelve, that header, 4,096 values,
-- and one byte that would be too many. So a program may stop reading there. A byte is at most 255, so in version 1.0 no
-- header is longer; in version 2.0 that is asked for.
use Rattle.std.specs.Prelude.{ℕ, zero, suc, ◌+◌, ◌-◌, ◌*◌, ◌≤◌, ◌<◌, List, [], ◌∷◌, ◌++◌, Bool, true, false, ◌&&◌}
use Rattle.std.specs.Prelude.{◌||◌, ◌≡◌, refl, leb, ltb, eqb, length, get_or, take, drop, Float}
use Rattle.std.proofs.Common.{sym, ap, ap₂, ◌∙◌, subst, arith, length-take, length-take-le, get_or-take, take-take}
use Rattle.std.proofs.Common.{take_all, leb-true, leb-false, le-leb, ltb-true, ltb-false, ne_eqb}
use Rattle.std.proofs.lemmas.Bool.{lt-leb}
use Rattle.lists.specs.Test.{and_left, and_right, decide}
use Rattle.model.specs.Results.{Answer}
use Rattle.npy_grammar.specs.Text.{Width, eight, four, Values, Right}
use Rattle.npy_files.specs.Frame.{byte_at, little, opening, starts_with, is_version, head_start, head_length, data_start, is_framed, head_text}
use Rattle.npy_files.specs.Shapes.{all_in_range, product, good_shape}
use Rattle.npy_files.specs.Values.{bytes_of, data_fits}
use Rattle.npy_files.specs.Reads.{Says, is_room, Reading}
use Rattle.npy_files.specs.Once.{room-good, reading-once}

abbrev pub read_at_most : ℕ
read_at_most = 98316

pub starts-take : (w t : List ℕ) (n : ℕ) → length w ≤ n → starts_with w (take n t) ≡ starts_with w t
unfolding starts_with
starts-take [] t n h = refl
starts-take (x ∷ w) t zero h = absurd (omega arith)
starts-take (x ∷ w) [] (suc n) h = refl
starts-take (x ∷ w) (b ∷ t) (suc n) h = ap (λ (c : Bool). eqb b x && c) (starts-take w t n (omega arith))

pub little-take : (n : ℕ) (t : List ℕ) (p m : ℕ) → p + n ≤ m → little n (take m t) p ≡ little n t p
unfolding little
little-take zero t p m h = refl
little-take (suc n) t p m h = rw (get_or-take m t p 0 (omega arith), little-take n t (suc p) m (omega arith))

part-take : (k n m : ℕ) (t : List ℕ) → k + n ≤ m → take n (drop k (take m t)) ≡ take n (drop k t)
part-take zero n m t h = take-take n m t (omega arith)
part-take (suc k) n zero t h = absurd (omega arith)
part-take (suc k) n (suc m) [] h = refl
part-take (suc k) n (suc m) (x ∷ t) h = part-take k n m t (omega arith)

little-two : (t : List ℕ) (p : ℕ) → ((k : ℕ) → byte_at t k ≤ 255) → little 2 t p ≤ 65535
unfolding little
little-two t p b = omega (arith, b p, b (suc p))

size-most : (w : Width) (n : ℕ) → n ≤ 4096 → bytes_of w * n ≤ 32768
unfolding bytes_of
size-most eight n h = omega arith
size-most four n h = omega arith

product-most : (s : List ℕ) → good_shape s ≡ true → product s ≤ 4096
unfolding good_shape
product-most s h = leb-true (product s) 4096 (and_right (leb (length s) 4 && all_in_range s) (leb (product s) 4096) h)

-- a longer file is unlike every shape
longer : (t : List ℕ) (v : Values) → data_start t ≤ 65547 → read_at_most ≤ length t → product v.shape ≤ 4096 → data_fits t v ≡ false
unfolding data_fits
longer t v d l p =
    ne_eqb (length t) (data_start t + bytes_of v.width * product v.shape) (λ e. omega (arith, e, d, l, size-most v.width (product v.shape) p))

never : {A : Type 0} {b : Bool} → b ≡ true → b ≡ false → A
never p q = absurd (let z : true ≡ false = sym p ∙ q in let n : ◌≡◌ {A = ℕ} 0 1 = cc in omega arith)

start-most : (t : List ℕ) → (10 ≤ head_start t) × (head_start t ≤ 12)
unfolding head_start
start-most t = decide (is_version 1 t) (λ e. rw e (omega arith, omega arith)) (λ e. rw e (omega arith, omega arith))

framed-version : (t : List ℕ) → is_framed t ≡ true → (is_version 1 t || is_version 2 t) ≡ true
unfolding is_framed
framed-version t f =
    and_left (is_version 1 t || is_version 2 t) (leb (head_start t) (length t))
    (and_left ((is_version 1 t || is_version 2 t) && leb (head_start t) (length t)) (leb (data_start t) (length t)) f)

-- in version 2.0 the header is no longer than 1.0 can say
abbrev pub ShortHead : List ℕ → Type 0
ShortHead t = is_version 2 t ≡ true → little 4 t 8 ≤ 65535

module _ (t : List ℕ) (bytes : (k : ℕ) → byte_at t k ≤ 255) (short : ShortHead t) where
  abbrev u : List ℕ
  u = take read_at_most t

  version-same : (v : ℕ) → is_version v u ≡ is_version v t
  unfolding is_version
  version-same v = starts-take (opening v) t read_at_most (omega arith)

  long_same : (n : ℕ) → n ≤ read_at_most → leb n (length u) ≡ leb n (length t)
  long_same n h =
      decide (leb n (length t))
      (λ a. le-leb n (length u) (omega (arith, h, length-take read_at_most t, leb-true n (length t) a)) ∙ sym a)
      (λ a. lt-leb n (length u) (omega (arith, length-take read_at_most t, leb-false n (length t) a)) ∙ sym a)

  start-same : head_start u ≡ head_start t
  unfolding head_start
  start-same = rw (version-same 1)

  length-same : head_length u ≡ head_length t
  unfolding head_length
  length-same = rw start-same (little-take (head_start t - 8) t 8 read_at_most (omega (arith, start-most t)))

  length-one : is_version 1 t ≡ true → head_length t ≤ 65535
  unfolding head_length head_start
  length-one e = rw e (little-two t 8 bytes)

  length_two : is_version 1 t ≡ false → is_version 2 t ≡ true → head_length t ≤ 65535
  unfolding head_length head_start
  length_two e f = rw e (short f)

  module _ (either : (is_version 1 t || is_version 2 t) ≡ true) where
    length_most : head_length t ≤ 65535
    length_most = decide (is_version 1 t) length-one (λ e. length_two e (rw e at either))

    framed-same : is_framed u ≡ is_framed t
    unfolding is_framed
    framed-same =
        rw (
          version-same 1,
          version-same 2,
          start-same,
          length-same,
          long_same (head_start t) (omega (arith, start-most t)),
          long_same (head_start t + head_length t) (omega (arith, start-most t, length_most)),
        )

    text_same : head_text u ≡ head_text t
    unfolding head_text
    text_same = rw (length-same, start-same) (part-take (head_start t) (head_length t) read_at_most t (omega (arith, start-most t, length_most)))

    data-there : data_start t ≤ 65547
    data-there = omega (arith, start-most t, length_most)

    data-here : data_start u ≤ 65547
    data-here = omega (arith, start-same, length-same, start-most t, length_most)

  there : {v : Values} → Says t v → (is_version 1 t || is_version 2 t) ≡ true
  there s = framed-version t s.framed

  here : {v : Values} → Says u v → (is_version 1 t || is_version 2 t) ≡ true
  here s = sym (ap₂ (λ (a b : Bool). a || b) (version-same 1) (version-same 2)) ∙ framed-version u s.framed

  says_there : {v : Values} → Says t v → Says u v
  says_there {v} s =
      record {
        framed = framed-same (there s) ∙ s.framed;
        right = subst (λ (x : List ℕ). Right x v) (sym (text_same (there s))) s.right;
      }

  says_back : {v : Values} → Says u v → Says t v
  says_back {v} s =
      record {
        framed = sym (framed-same (here s)) ∙ s.framed;
        right = subst (λ (x : List ℕ). Right x v) (text_same (here s)) s.right;
      }

  carried_lem : read_at_most < length t → {old new : List Float} {a : Answer} → Reading t old a new → Reading u old a new
  carried_lem l (Reading.other n) = Reading.other (λ v s. n v (says_back s))
  carried_lem l (Reading.sizes v s f) = Reading.sizes v (says_there s) f
  carried_lem l {old} (Reading.unlike v s f g) =
      let most = product-most v.shape (room-good v (length old) f) in
      let long : read_at_most ≤ length u = omega (arith, l, length-take-le read_at_most t (omega (arith, l))) in
      Reading.unlike v (says_there s) f (longer u v (data-here (there s)) long most)
  carried_lem l {old} (Reading.done v s f g) =
      let most = product-most v.shape (room-good v (length old) f) in
      never g (longer t v (data-there (there s)) (omega (arith, l)) most)

  pub front_reads : {old x y : List Float} {p q : Answer} → Reading t old p x → Reading (take read_at_most t) old q y → (p ≡ q) × (x ≡ y)
  front_reads {old} {x} {y} {p} {q} m n =
      decide (ltb read_at_most (length t))
      (λ a. reading-once (carried_lem (ltb-true read_at_most (length t) a) m) n)
      (λ a. reading-once m
      (subst (λ (z : List ℕ). Reading z old q y) (take_all read_at_most t (omega (arith, ltb-false read_at_most (length t) a))) n))
