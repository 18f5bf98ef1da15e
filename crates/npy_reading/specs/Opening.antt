-- A file is opened: its frame, then its header's text.
use Rattle.std.specs.Prelude.{ℕ, ◌+◌, ◌-◌, ◌≤◌, List, map, Bool, true, false, ◌&&◌, ◌||◌, ◌≡◌, refl, length}
use Rattle.std.specs.Prelude.{Option, Some, None, MatchOption}
use Rattle.std.proofs.Math.Bool.{cond}
use Rattle.std.proofs.Math.Path.{sym, ap}
use Rattle.std.proofs.Common.{◌∙◌, arith}
use Rattle.std.proofs.Math.Dec.{leb}
use borrow.Author.Tests.{leb-true, le-leb}
use Rattle.lists.specs.Part.{part}
use Rattle.lists.specs.Test.{decide, and_left, and_right}
use Rattle.npy_grammar.specs.Text.{Values}
use Rattle.npy_grammar.specs.Reading.{cap}
use Rattle.npy_grammar.specs.Items.{width_number, order_number}
use Rattle.npy_header.specs.declared.Found.{Found}
use Rattle.npy_header.specs.Shapes.{Kept}
use Rattle.npy_header.specs.Cursors.{HeaderRead}
use Rattle.npy_files.specs.Frame.{little, starts_with, opening, is_version, head_start, head_length, data_start, is_framed, head_text}
use Rattle.npy_files.specs.Reads.{Says}
use Rattle.npy_reading.specs.declared.Opened.{Opened}

apart : {b : Bool} → b ≡ true → b ≡ false → ⊥
apart p q = let z : true ≡ false = sym p ∙ q in let n : ◌≡◌ {A = ℕ} 0 1 = cc in omega arith

-- one of the two versions
abbrev is_either : List ℕ → Bool
is_either t = is_version 1 t || is_version 2 t

-- where the header begins, and where the data; 0 where no such file begins so, or it ends before
unfoldable pub begin_of : List ℕ → ℕ
begin_of t = cond (is_either t) (cond (leb (head_start t) (length t)) (head_start t) 0) 0

unfoldable pub end_of : List ℕ → ℕ
end_of t = cond (leb (data_start t) (length t)) (data_start t) 0

-- ---- the code's tests, one after the other

module _ (t : List ℕ) where
  pub begin-one : {r : ℕ} {s : Bool} → s ≡ starts_with (opening 1) t → s ≡ true → r ≡ cond (leb 10 (length t)) 10 0 → r ≡ begin_of t
  unfolding begin_of is_version head_start
  begin-one e h k = k ∙ sym (rw (sym e ∙ h))

  module _ {s : Bool} (e : s ≡ starts_with (opening 1) t) (h : s ≡ false) {u : Bool} (f : u ≡ starts_with (opening 2) t) where
    pub begin-two : {r : ℕ} → u ≡ true → r ≡ cond (leb 12 (length t)) 12 0 → r ≡ begin_of t
    unfolding begin_of is_version head_start
    begin-two g k = k ∙ sym (rw (sym e ∙ h, sym f ∙ g))

    pub begin-none : u ≡ false → 0 ≡ begin_of t
    unfolding begin_of is_version
    begin-none g = sym (rw (sym e ∙ h, sym f ∙ g))

-- the header begins at p
pub record Begun (t : List ℕ) (p : ℕ) : Type 0 where
  pub version : is_either t ≡ true
  pub is : p ≡ head_start t
  pub inside : p ≤ length t
  pub from : 10 ≤ p
  pub twelve : (p ≡ 10 → ⊥) → p ≡ 12

head_start-two : (t : List ℕ) → (10 ≤ head_start t) × ((head_start t ≡ 10 → ⊥) → head_start t ≡ 12)
unfolding head_start
head_start-two t = decide (is_version 1 t) (λ v. rw v (omega arith, λ n. absurd (n refl))) (λ v. rw v (omega arith, λ n. refl))

module _ (t : List ℕ) {p : ℕ} (e : p ≡ begin_of t) where
  begun-at : is_either t ≡ true → leb (head_start t) (length t) ≡ true → Begun t p
  unfolding begin_of
  begun-at v l =
      let k : p ≡ head_start t = e ∙ rw (v, l) in
      let two = head_start-two t in
      record {
        version = v;
        is = k;
        inside = omega (arith, k, leb-true (head_start t) (length t) l);
        from = omega (arith, k, two.0);
        twelve = λ n. k ∙ two.1 (λ q. n (k ∙ q));
      }

  pub begun : (p ≡ 0 → ⊥) → Begun t p
  unfolding begin_of
  begun n =
      decide (is_either t)
      (λ v. decide (leb (head_start t) (length t)) (begun-at v) (λ l. absurd (n (e ∙ rw (v, l)))))
      (λ v. absurd (n (e ∙ rw v)))

  pub not-begun : p ≡ 0 → (v : Values) → Says t v → ⊥
  unfolding begin_of is_framed
  not-begun z v s =
      let ab = and_left (is_either t && leb (head_start t) (length t)) (leb (data_start t) (length t)) s.framed in
      let a = and_left (is_either t) (leb (head_start t) (length t)) ab in
      let b = and_right (is_either t) (leb (head_start t) (length t)) ab in
      let k : begin_of t ≡ head_start t = rw (a, b) in
      omega (arith, e, z, k, (head_start-two t).0)

module _ (t : List ℕ) {p : ℕ} (b : Begun t p) where
  length_at : (n : ℕ) → p ≡ 8 + n → head_length t ≡ little n t 8
  unfolding head_length
  length_at n e = let k : head_start t - 8 ≡ n = omega (arith, b.is, e) in rw k

  pub end-one : {x : ℕ} → p ≡ 10 → x ≡ little 2 t 8 → 10 + x ≡ data_start t
  end-one e k = omega (arith, b.is, e, k, length_at 2 e)

  pub end-two : {x : ℕ} → (p ≡ 10 → ⊥) → x ≡ little 4 t 8 → 12 + x ≡ data_start t
  end-two n k = let e = b.twelve n in omega (arith, b.is, e, k, length_at 4 e)

  pub end_is : {r q : ℕ} → q ≡ data_start t → r ≡ cond (leb q (length t)) q 0 → r ≡ end_of t
  unfolding end_of
  end_is {r} {q} e k = k ∙ ap (λ (x : ℕ). cond (leb x (length t)) x 0) e

-- the frame is whole: the header from p on, the data from s on
pub record Framed (t : List ℕ) (p s : ℕ) : Type 0 where
  pub framed : is_framed t ≡ true
  pub is : s ≡ data_start t
  pub from : p ≤ s
  pub inside : s ≤ length t
  pub head : part p s t ≡ head_text t

module _ (t : List ℕ) {p s : ℕ} (b : Begun t p) (e : s ≡ end_of t) where
  framed_at : leb (data_start t) (length t) ≡ true → Framed t p s
  unfolding end_of is_framed head_text
  framed_at l =
      let k : s ≡ data_start t = e ∙ rw l in
      let m : s - p ≡ head_length t = omega (arith, k, b.is) in
      record {
        framed = rw (b.version, le-leb (head_start t) (length t) (omega (arith, b.is, b.inside)), l);
        is = k;
        from = omega (arith, k, b.is);
        inside = omega (arith, k, leb-true (data_start t) (length t) l);
        head = rw (m, b.is);
      }

  pub framed : (s ≡ 0 → ⊥) → Framed t p s
  unfolding end_of
  framed n = decide (leb (data_start t) (length t)) framed_at (λ l. absurd (n (e ∙ rw l)))

  pub not-framed : s ≡ 0 → (v : Values) → Says t v → ⊥
  unfolding end_of is_framed
  not-framed z v y =
      let l = and_right (is_either t && leb (head_start t) (length t)) (leb (data_start t) (length t)) y.framed in
      let k : end_of t ≡ data_start t = rw l in
      omega (arith, e, z, k, (head_start-two t).0)

-- ---- the places as the code has them: None in place of 0

module _ (t : List ℕ) {r : Option ℕ} {p : ℕ} where
  pub some-begun : 10 ≤ p → r ≡ cond (leb p (length t)) (Some p) None → cond (leb p (length t)) p 0 ≡ begin_of t
      → MatchOption r (begin_of t ≡ 0) (Begun t)
  some-begun m e k =
      decide (leb p (length t))
      (λ l.
      let j : p ≡ begin_of t = rw l at k in
      let q : r ≡ Some p = rw l at e in
      rw q (begun t j (λ z. omega arith)))
      (λ l.
      let j : 0 ≡ begin_of t = rw l at k in
      let q : r ≡ None = rw l at e in
      rw q (sym j))

  pub some-framed : {q : ℕ} → Begun t p → q ≡ data_start t → r ≡ cond (leb q (length t)) (Some q) None
      → MatchOption r (end_of t ≡ 0) (Framed t p)
  some-framed {q} b d e =
      let k : cond (leb q (length t)) q 0 ≡ end_of t = end_is t b d refl in
      decide (leb q (length t))
      (λ l.
      let j : q ≡ end_of t = rw l at k in
      let f : r ≡ Some q = rw l at e in
      rw f (framed t b j (λ z. omega (arith, d, b.is, b.from))))
      (λ l.
      let j : 0 ≡ end_of t = rw l at k in
      let f : r ≡ None = rw l at e in
      rw f (sym j))

-- ---- the whole

pub record Opening (t : List ℕ) (r : Opened) : Type 0 where
  pub values : Values
  pub says : Says t values
  pub start : r.start ≡ data_start t
  pub inside : r.start ≤ length t
  pub width : r.width ≡ width_number values.width
  pub order : r.order ≡ order_number values.order
  pub kept : Kept (map cap values.shape) r.shape

-- taken is a file that says so; and no other file says anything
pub record Opens (t : List ℕ) (r : Opened) : Type 0 where
  pub sound : r.right ≡ true → Opening t r
  pub complete : r.right ≡ false → (v : Values) → Says t v → ⊥

pub opens-none : (t : List ℕ) {r : Opened} → r.right ≡ false → ((v : Values) → Says t v → ⊥) → Opens t r
opens-none t e n = record { sound = λ h. absurd (apart h e); complete = λ h. n }

abbrev opened : ℕ → Found → Opened
opened s f = record { right = f.right; start = s; width = f.width; order = f.order; shape = f.shape }

module _ (t : List ℕ) {p s : ℕ} {f : Found} (b : Framed t p s) (h : HeaderRead (part p s t) f) where
  found-sound : f.right ≡ true → Opening t (opened s f)
  found-sound e =
      let k = h.sound e in
      record {
        values = k.values;
        says = record { framed = b.framed; right = rw b.head at k.right };
        start = b.is;
        inside = b.inside;
        width = k.says.width;
        order = k.says.order;
        kept = k.says.shape;
      }

  found-complete : f.right ≡ false → (v : Values) → Says t v → ⊥
  found-complete e v s = apart (h.complete v (rw (← b.head) at s.right)).0 e

  pub opens-found : Opens t (opened s f)
  opens-found = record { sound = found-sound; complete = found-complete }
