-- What a cursor has seen, and what each reader does to it.
use Rattle.std.specs.Prelude.{ℕ, ◌-◌, ◌≤◌, List, [], ◌∷◌, map, Bool, ◌&&◌, ◌≡◌, refl, length}
use Rattle.std.proofs.Math.Bool.{true, false}
use Rattle.std.proofs.Math.Path.{sym, ap}
use Rattle.std.proofs.Common.{◌∙◌, arith, length-drop}
use Rattle.std.proofs.Math.Dec.{eqb}
use Rattle.std.proofs.Math.ListN.{drop}
use borrow.Author.Tests.{eq-eqb, ne_eqb}
use Rattle.npy_grammar.specs.Text.{is_blank, is_lead, is_space, Values, Right, order_word, rows, columns, key_word, descr, fortran_order, shape}
use Rattle.npy_grammar.specs.Reading.{strip, eat, eats, peek, cap, past_comma, read_tuple, is_quote, past_kind}
use Rattle.npy_grammar.specs.Reading.{past_width, width_at, past_order, order_at, Seen, past_key, read_descr}
use Rattle.npy_grammar.specs.Reading.{read_order, read_shape, read_key, blanked, read_item, started, comma_past, items}
use Rattle.npy_grammar.specs.Reading.{past_close, is_last, taken}
use Rattle.npy_grammar.specs.Items.{width_number, order_number}
use Rattle.npy_grammar.specs.Headers.{Means, header-sound, header-complete}
use Rattle.npy_header.specs.declared.Shape.{Shape}
use Rattle.npy_header.specs.declared.Listed.{Listed}
use Rattle.npy_header.specs.declared.Cursor.{Cursor}
use Rattle.npy_header.specs.declared.Found.{Found}
use Rattle.npy_pieces.specs.Places.{At, at_end, then}
use Rattle.npy_header.specs.Shapes.{Kept, ListedAt}

-- what was seen, but for the place
pub record Noted (c : Cursor) (s : Seen) : Type 0 where
  pub width : c.width ≡ s.width
  pub order : c.order ≡ s.order
  pub given : c.given ≡ s.given
  pub kept : Kept s.shape c.shape

pub record Held (t : List ℕ) (c : Cursor) (s : Seen) : Type 0 where
  pub place : At t c.at s.rest
  pub noted : Noted c s

-- r is c after g, whatever stands for c
pub record CursorRead (t : List ℕ) (c r : Cursor) (g : Seen → Seen) : Type 0 where
  pub most : r.at ≤ length t
  pub reads : (s : Seen) → Noted c s → Held t r (g s)

pub record ItemRead (t : List ℕ) (c r : Cursor) : Type 0 where
  pub most : r.at ≤ length t
  pub reads : (s : Seen) → Held t c s → Held t r (read_item (length t) s)

pub record CommaRead (t : List ℕ) (c r : Cursor) : Type 0 where
  pub most : r.at ≤ length t
  pub reads : (s : Seen) → Held t c s → Held t r (comma_past s)

abbrev pub cursor : ℕ → ℕ → ℕ → ℕ → Shape → Cursor
cursor p w o g s = record { at = p; width = w; order = o; given = g; shape = s }

-- ---- values

module _ (t : List ℕ) (p : ℕ) {q k : ℕ} (eq : q ≡ peek (drop p t)) (ak : At t k (eats (60 ∷ 102 ∷ []) (eat q (drop p t)))) where
  kind_at : At t k (past_kind (drop p t))
  kind_at = record { most = ak.most; left = ak.left ∙ ap (λ (x : ℕ). eats (60 ∷ 102 ∷ []) (eat x (drop p t))) eq }

  module _ {y : ℕ} (ey : y ≡ peek (drop k t)) where
    kind-seen : peek (past_kind (drop p t)) ≡ y
    kind-seen = sym (ey ∙ ap peek kind_at.left)

    pub width_8 : y ≡ 56 → 8 ≡ width_at (drop p t)
    unfolding width_at
    width_8 e = sym (rw (ap (λ (x : ℕ). eqb x 56) kind-seen ∙ eq-eqb y 56 e))

    pub width_4 : (y ≡ 56 → ⊥) → 4 ≡ width_at (drop p t)
    unfolding width_at
    width_4 e = sym (rw (ap (λ (x : ℕ). eqb x 56) kind-seen ∙ ne_eqb y 56 e))

    module _ (u : is_quote q ≡ true) where
      quoted_so : is_quote (peek (drop p t)) ≡ true
      quoted_so = ap is_quote (sym eq) ∙ u

      both : (x : ℕ) {d r : ℕ} → At t d (eat x (drop k t)) → At t r (eat q (drop d t)) → At t r (eat (peek (drop p t)) (eat x (past_kind (drop p t))))
      both x {d} {r} a b =
          record {
            most = b.most;
            left = b.left
                ∙ (ap (eat q) (a.left ∙ ap (eat x) kind_at.left)
                ∙ ap (λ (z : ℕ). eat z (eat x (past_kind (drop p t)))) eq);
          }

      pub past_8 : {d r : ℕ} → y ≡ 56 → At t d (eat 56 (drop k t)) → At t r (eat q (drop d t)) → At t r (past_width (drop p t))
      unfolding past_width
      past_8 e a b = rw (quoted_so, ap (λ (x : ℕ). eqb x 56) kind-seen ∙ eq-eqb y 56 e) (both 56 a b)

      pub past_4 : {d r : ℕ} → (y ≡ 56 → ⊥) → At t d (eat 52 (drop k t)) → At t r (eat q (drop d t)) → At t r (past_width (drop p t))
      unfolding past_width
      past_4 e a b = rw (quoted_so, ap (λ (x : ℕ). eqb x 56) kind-seen ∙ ne_eqb y 56 e) (both 52 a b)

pub past_unquoted : (t : List ℕ) (p : ℕ) {q : ℕ} → q ≡ peek (drop p t) → is_quote q ≡ false → At t (length t) (past_width (drop p t))
unfolding past_width
past_unquoted t p eq u = rw (ap is_quote (sym eq) ∙ u) (at_end t)

module _ (t : List ℕ) (p : ℕ) {y : ℕ} (ey : y ≡ peek (drop p t)) where
  pub order_2 : y ≡ 84 → 2 ≡ order_at (drop p t)
  unfolding order_at
  order_2 e = sym (rw (ap (λ (x : ℕ). eqb x 84) (sym ey) ∙ eq-eqb y 84 e))

  pub order_1 : (y ≡ 84 → ⊥) → 1 ≡ order_at (drop p t)
  unfolding order_at
  order_1 e = sym (rw (ap (λ (x : ℕ). eqb x 84) (sym ey) ∙ ne_eqb y 84 e))

  pub past_2 : {r : ℕ} → y ≡ 84 → At t r (eats (order_word columns) (drop p t)) → At t r (past_order (drop p t))
  unfolding past_order
  past_2 e a = rw (ap (λ (x : ℕ). eqb x 84) (sym ey) ∙ eq-eqb y 84 e) a

  pub past_1 : {r : ℕ} → (y ≡ 84 → ⊥) → At t r (eats (order_word rows) (drop p t)) → At t r (past_order (drop p t))
  unfolding past_order
  past_1 e a = rw (ap (λ (x : ℕ). eqb x 84) (sym ey) ∙ ne_eqb y 84 e) a

-- ---- keys

module _ (t : List ℕ) (c : Cursor) (p : ℕ) where
  pub descr-again : (c.width ≡ 0 → ⊥) → CursorRead t c (cursor (length t) c.width c.order c.given c.shape) (λ s. read_descr s (drop p t))
  unfolding read_descr
  descr-again n =
      record {
        most = omega arith;
        reads = λ s k.
            rw (ap (λ (x : ℕ). eqb x 0) (sym k.width) ∙ ne_eqb c.width 0 n)
            (record { place = at_end t; noted = record { width = k.width; order = k.order; given = k.given; kept = k.kept } });
      }

  pub descr-first : {r w : ℕ} → c.width ≡ 0 → At t r (past_width (drop p t)) → w ≡ width_at (drop p t)
      → CursorRead t c (cursor r w c.order c.given c.shape) (λ s. read_descr s (drop p t))
  unfolding read_descr
  descr-first n a e =
      record {
        most = a.most;
        reads = λ s k.
            rw (ap (λ (x : ℕ). eqb x 0) (sym k.width) ∙ eq-eqb c.width 0 n)
            (record { place = a; noted = record { width = e; order = k.order; given = k.given; kept = k.kept } });
      }

  pub order-again : (c.order ≡ 0 → ⊥) → CursorRead t c (cursor (length t) c.width c.order c.given c.shape) (λ s. read_order s (drop p t))
  unfolding read_order
  order-again n =
      record {
        most = omega arith;
        reads = λ s k.
            rw (ap (λ (x : ℕ). eqb x 0) (sym k.order) ∙ ne_eqb c.order 0 n)
            (record { place = at_end t; noted = record { width = k.width; order = k.order; given = k.given; kept = k.kept } });
      }

  pub order-first : {r w : ℕ} → c.order ≡ 0 → At t r (past_order (drop p t)) → w ≡ order_at (drop p t)
      → CursorRead t c (cursor r c.width w c.given c.shape) (λ s. read_order s (drop p t))
  unfolding read_order
  order-first n a e =
      record {
        most = a.most;
        reads = λ s k.
            rw (ap (λ (x : ℕ). eqb x 0) (sym k.order) ∙ eq-eqb c.order 0 n)
            (record { place = a; noted = record { width = k.width; order = e; given = k.given; kept = k.kept } });
      }

  pub shape-again : (c.given ≡ 0 → ⊥) → CursorRead t c (cursor (length t) c.width c.order c.given c.shape) (λ s. read_shape (length t) s (drop p t))
  unfolding read_shape
  shape-again n =
      record {
        most = omega arith;
        reads = λ s k.
            rw (ap (λ (x : ℕ). eqb x 0) (sym k.given) ∙ ne_eqb c.given 0 n)
            (record { place = at_end t; noted = record { width = k.width; order = k.order; given = k.given; kept = k.kept } });
      }

  pub shape-first : {l : Listed} → c.given ≡ 0 → ListedAt t l (read_tuple (length t) (drop p t))
      → CursorRead t c (cursor l.at c.width c.order 1 l.shape) (λ s. read_shape (length t) s (drop p t))
  unfolding read_shape
  shape-first n a =
      record {
        most = a.place.most;
        reads = λ s k.
            rw (ap (λ (x : ℕ). eqb x 0) (sym k.given) ∙ eq-eqb c.given 0 n)
            (record { place = a.place; noted = record { width = k.width; order = k.order; given = refl; kept = a.kept } });
      }

module _ (t : List ℕ) (c r : Cursor) (p q : ℕ) {y : ℕ} (ey : y ≡ peek (drop p t)) where
  pub key_100 : {b : ℕ} → y ≡ 100 → At t b (past_key q (key_word descr) (drop p t)) → CursorRead t c r (λ s. read_descr s (drop b t))
      → CursorRead t c r (λ s. read_key (length t) s q (drop p t))
  unfolding read_key
  key_100 {b} e a k =
      let j : eqb (peek (drop p t)) 100 ≡ true = ap (λ (x : ℕ). eqb x 100) (sym ey) ∙ eq-eqb y 100 e in
      record { most = k.most; reads = λ s n. rw (j, ← a.left) (k.reads s n) }

  module _ (n₁ : y ≡ 100 → ⊥) where
    pub key_102 : {b : ℕ} → y ≡ 102 → At t b (past_key q (key_word fortran_order) (drop p t)) → CursorRead t c r (λ s. read_order s (drop b t))
        → CursorRead t c r (λ s. read_key (length t) s q (drop p t))
    unfolding read_key
    key_102 {b} e a k =
        let j : eqb (peek (drop p t)) 100 ≡ false = ap (λ (x : ℕ). eqb x 100) (sym ey) ∙ ne_eqb y 100 n₁ in
        let i : eqb (peek (drop p t)) 102 ≡ true = ap (λ (x : ℕ). eqb x 102) (sym ey) ∙ eq-eqb y 102 e in
        record { most = k.most; reads = λ s n. rw (j, i, ← a.left) (k.reads s n) }

    pub key-other : {b : ℕ} → (y ≡ 102 → ⊥) → At t b (past_key q (key_word shape) (drop p t)) → CursorRead t c r (λ s. read_shape (length t) s (drop b t))
        → CursorRead t c r (λ s. read_key (length t) s q (drop p t))
    unfolding read_key
    key-other {b} e a k =
        let j : eqb (peek (drop p t)) 100 ≡ false = ap (λ (x : ℕ). eqb x 100) (sym ey) ∙ ne_eqb y 100 n₁ in
        let i : eqb (peek (drop p t)) 102 ≡ false = ap (λ (x : ℕ). eqb x 102) (sym ey) ∙ ne_eqb y 102 e in
        record { most = k.most; reads = λ s n. rw (j, i, ← a.left) (k.reads s n) }

-- ---- items

module _ (t : List ℕ) (c r : Cursor) {p q : ℕ} (a : At t p (strip is_blank (drop c.at t))) (eq : q ≡ peek (drop p t)) where
  blanks_at : (s : Seen) → Held t c s → drop p t ≡ blanked s
  blanks_at s h = a.left ∙ ap (strip is_blank) h.place.left

  quote-at : (s : Seen) → Held t c s → peek (blanked s) ≡ q
  quote-at s h = sym (eq ∙ ap peek (blanks_at s h))

  pub item-read : {b : ℕ} → is_quote q ≡ true → At t b (eat q (drop p t)) → CursorRead t c r (λ s. read_key (length t) s q (drop b t)) → ItemRead t c r
  unfolding read_item
  item-read {b} u d k =
      record {
        most = k.most;
        reads = λ s h.
            let e : eat q (blanked s) ≡ drop b t = sym (d.left ∙ ap (eat q) (blanks_at s h)) in
            rw (quote-at s h, u, e) (k.reads s h.noted);
      }

module _ (t : List ℕ) (c : Cursor) {p q : ℕ} (a : At t p (strip is_blank (drop c.at t))) (eq : q ≡ peek (drop p t)) where
  pub item-none : is_quote q ≡ false → ItemRead t c (cursor (length t) c.width c.order c.given c.shape)
  unfolding read_item
  item-none u =
      record {
        most = omega arith;
        reads = λ s h.
            rw (quote-at t c c a eq s h, u)
            (record {
              place = at_end t;
              noted = record { width = h.noted.width; order = h.noted.order; given = h.noted.given; kept = h.noted.kept };
            });
      }

pub comma-read : (t : List ℕ) (c : Cursor) {p r : ℕ} → At t p (strip is_blank (drop c.at t)) → At t r (eat 44 (drop p t))
    → CommaRead t c (cursor r c.width c.order c.given c.shape)
comma-read t c a b =
    record {
      most = b.most;
      reads = λ s h.
          record {
            place = record { most = b.most; left = b.left ∙ ap (eat 44) (a.left ∙ ap (strip is_blank) h.place.left) };
            noted = record { width = h.noted.width; order = h.noted.order; given = h.noted.given; kept = h.noted.kept };
          };
    }

-- ---- the end

module _ (t : List ℕ) (at : ℕ) {p y : ℕ} (a : At t p (strip is_blank (drop at t))) (ey : y ≡ peek (drop p t)) where
  end_seen : peek (strip is_blank (drop at t)) ≡ y
  end_seen = sym (ey ∙ ap peek a.left)

  pub close-comma : {b r : ℕ} → y ≡ 44 → At t b (past_comma (drop at t)) → At t r (eat 125 (drop b t)) → At t r (past_close (drop at t))
  unfolding past_close
  close-comma e d w = rw (ap (λ (x : ℕ). eqb x 44) end_seen ∙ eq-eqb y 44 e) (then (eat 125) d w)

  pub close-bare : {r : ℕ} → (y ≡ 44 → ⊥) → At t r (eat 125 (drop p t)) → At t r (past_close (drop at t))
  unfolding past_close
  close-bare e w = rw (ap (λ (x : ℕ). eqb x 44) end_seen ∙ ne_eqb y 44 e) (then (eat 125) a w)

pub last-is : (t : List ℕ) (at : ℕ) {y : ℕ} → y ≡ peek (drop at t) → (eqb (length t - at) 1 && eqb y 10) ≡ is_last (drop at t)
unfolding is_last
last-is t at e = rw (e, length-drop at t)

-- ---- the whole header

-- what was found says v: numbers above 64 are kept as 65
pub record Says (r : Found) (v : Values) : Type 0 where
  pub width : r.width ≡ width_number v.width
  pub order : r.order ≡ order_number v.order
  pub shape : Kept (map cap v.shape) r.shape

pub record Told (t : List ℕ) (r : Found) : Type 0 where
  pub values : Values
  pub right : Right t values
  pub says : Says r values

-- found right is a right text that says so; and every right text is found right and says so
pub record HeaderRead (t : List ℕ) (r : Found) : Type 0 where
  pub sound : r.right ≡ true → Told t r
  pub complete : (v : Values) → Right t v → (r.right ≡ true) × Says r v

abbrev pub found : Bool → ℕ → ℕ → Shape → Found
found b w o s = record { right = b; width = w; order = o; shape = s }

module _ (t : List ℕ) {l : Bool} {c : Cursor} (h : Held t c (items (length t) t)) (el : l ≡ taken (length t) t) where
  says : (v : Values) → Means (items (length t) t) v → Says (found l c.width c.order c.shape) v
  says v m =
      record {
        width = h.noted.width ∙ m.width;
        order = h.noted.order ∙ m.order;
        shape = rw m.shape at h.noted.kept;
      }

  pub header_read : HeaderRead t (found l c.width c.order c.shape)
  header_read =
      record {
        sound = λ e. let k = header-sound (length t) t (sym el ∙ e) in record { values = k.values; right = k.right; says = says k.values k.means };
        complete = λ v r. let k = header-complete (length t) (omega arith) r in (el ∙ k.0, says v k.1);
      }

module _ (t : List ℕ) {p q : ℕ} {k : Shape} {a b b' c c' : Cursor} (a₁ : At t p (strip is_lead (drop 0 t))) (a₂ : At t q (eat 123 (drop p t))) (kn : Kept [] k)
    (i₁ : ItemRead t (cursor q 0 0 0 k) a) (m₁ : CommaRead t a b') (i₂ : ItemRead t b' b) (m₂ : CommaRead t b c') (i₃ : ItemRead t c' c) where
  started-held : Held t (cursor q 0 0 0 k) (started t)
  started-held = record { place = then (eat 123) a₁ a₂; noted = record { width = refl; order = refl; given = refl; kept = kn } }

  held : Held t c (items (length t) t)
  held = i₃.reads _ (m₂.reads _ (i₂.reads _ (m₁.reads _ (i₁.reads _ started-held))))

  pub header-found : {d e : ℕ} {l : Bool} → At t d (past_close (drop c.at t)) → At t e (strip is_space (drop d t)) → l ≡ is_last (drop e t)
      → HeaderRead t (found l c.width c.order c.shape)
  unfolding taken
  header-found {d} {e} {l} ad ae el =
      header_read t held
      (el ∙ ap is_last (ae.left ∙ ap (strip is_space) (ad.left ∙ ap past_close held.place.left)))
