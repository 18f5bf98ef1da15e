-- A file says one thing, so reading it has one outcome.
use Rattle.std.specs.Prelude.{ℕ, ◌<◌, ◌≤◌, List, [], ◌∷◌, ◌++◌, map, Bool, true, false, ◌&&◌, ◌≡◌, refl, leb, length, drop, Float}
use Rattle.std.proofs.Math.Path.{sym, ap}
use Rattle.std.proofs.Common.{◌∙◌, subst, arith}
use Rattle.lists.specs.Test.{and_left, and_right, decide}
use Rattle.model.specs.Results.{Answer}
use Rattle.npy_grammar.specs.Text.{Values}
use Rattle.npy_grammar.specs.Reading.{cap}
use Rattle.npy_grammar.specs.Headers.{Same, header-one}
use Rattle.npy_files.specs.Frame.{head_text}
use Rattle.npy_files.specs.Shapes.{all_in_range, product, good_shape}
use Rattle.npy_files.specs.Values.{data_fits}
use Rattle.npy_files.specs.Reads.{Says, is_room, read_answer, read_out, Reading}
use Rattle.npy_files.specs.Sizes.{good_cap_lem, range-cap, cap_in}

pub cap-all : (s : List ℕ) → all_in_range s ≡ true → map cap s ≡ s
unfolding all_in_range
cap-all [] h = refl
cap-all (x ∷ s) h =
    rw (cap_in x (and_left (leb 1 x && leb x 64) (all_in_range s) h), cap-all s (and_right (leb 1 x && leb x 64) (all_in_range s) h))

shape_one : (s r : List ℕ) → map cap s ≡ map cap r → all_in_range s ≡ true → s ≡ r
shape_one s r e h = sym (cap-all s h) ∙ (e ∙ cap-all r (sym (range-cap r) ∙ (ap all_in_range (sym e) ∙ (range-cap s ∙ h))))

pub good-range : (s : List ℕ) → good_shape s ≡ true → all_in_range s ≡ true
unfolding good_shape
good-range s h = and_right (leb (length s) 4) (all_in_range s) (and_left (leb (length s) 4 && all_in_range s) (leb (product s) 4096) h)

module _ {t : List ℕ} {v w : Values} (a : Says t v) (b : Says t w) where
  pub says_same : Same v w
  says_same = header-one (head_text t) v w a.right b.right

  -- a shape is good or not, however it is read
  pub says-good : good_shape v.shape ≡ good_shape w.shape
  says-good = sym (good_cap_lem v.shape) ∙ (ap good_shape says_same.shape ∙ good_cap_lem w.shape)

  -- and where it is good, all is one
  pub says-one : good_shape v.shape ≡ true → v ≡ w
  says-one h =
      let e : v.shape ≡ w.shape = shape_one v.shape w.shape says_same.shape (good-range v.shape h) in
      λ i. record { width = says_same.width i; order = says_same.order i; shape = e i }

  pub says-room : (m : ℕ) → is_room v m ≡ is_room w m
  unfolding is_room
  says-room m =
      decide (good_shape v.shape)
      (λ g. ap (λ (x : Values). is_room x m) (says-one g))
      (λ g. rw (g, sym says-good ∙ g))

pub room-good : (v : Values) (m : ℕ) → is_room v m ≡ true → good_shape v.shape ≡ true
unfolding is_room
room-good v m h = and_left (good_shape v.shape) (leb (product v.shape) m) h

-- the two cannot both be
apart : {b c : Bool} → b ≡ c → b ≡ true → c ≡ false → ⊥
apart e p q = let z : true ≡ false = sym p ∙ (e ∙ q) in let n : ◌≡◌ {A = ℕ} 0 1 = cc in omega arith

abbrev Both : Answer → Answer → List Float → List Float → Type 0
Both a b x y = (a ≡ b) × (x ≡ y)

module _ {t : List ℕ} {old : List Float} where
  pub reading-once : {a b : Answer} {x y : List Float} → Reading t old a x → Reading t old b y → Both a b x y
  reading-once (Reading.other n) (Reading.other m) = (refl, refl)
  reading-once (Reading.other n) (Reading.sizes w s e) = absurd (n w s)
  reading-once (Reading.other n) (Reading.unlike w s e f) = absurd (n w s)
  reading-once (Reading.other n) (Reading.done w s e f) = absurd (n w s)
  reading-once (Reading.sizes v r e) (Reading.other n) = absurd (n v r)
  reading-once (Reading.sizes v r e) (Reading.sizes w s f) = (refl, refl)
  reading-once (Reading.sizes v r e) (Reading.unlike w s f g) = absurd (apart (says-room s r (length old)) f e)
  reading-once (Reading.sizes v r e) (Reading.done w s f g) = absurd (apart (says-room s r (length old)) f e)
  reading-once (Reading.unlike v r e f) (Reading.other n) = absurd (n v r)
  reading-once (Reading.unlike v r e f) (Reading.sizes w s g) = absurd (apart (says-room r s (length old)) e g)
  reading-once (Reading.unlike v r e f) (Reading.unlike w s g h) = (refl, refl)
  reading-once (Reading.unlike v r e f) (Reading.done w s g h) =
      absurd (apart (ap (data_fits t) (sym (says-one r s (room-good v (length old) e)))) h f)
  reading-once (Reading.done v r e f) (Reading.other n) = absurd (n v r)
  reading-once (Reading.done v r e f) (Reading.sizes w s g) = absurd (apart (says-room r s (length old)) e g)
  reading-once (Reading.done v r e f) (Reading.unlike w s g h) =
      absurd (apart (ap (data_fits t) (says-one r s (room-good v (length old) e))) f h)
  reading-once (Reading.done v r e f) (Reading.done w s g h) =
      let k : v ≡ w = says-one r s (room-good v (length old) e) in
      (ap read_answer k, ap (read_out t old) k)
