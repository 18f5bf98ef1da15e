-- A header is read exactly: what is taken is a right text with these values, and every right text is taken, with its
-- values.
use Rattle.std.specs.Prelude.{ℕ, zero, suc, ◌+◌, ◌-◌, ◌*◌, ◌≤◌, ◌<◌, min, List, [], ◌∷◌, ◌++◌, map, Bool, true}
use Rattle.std.specs.Prelude.{false, ◌&&◌, ◌||◌, cond, ◌≡◌, leb, eqb, length, get_or}
use Rattle.std.proofs.Common.{append_assoc, append-nil, sym, ap, ◌∙◌, subst, arith, length-append, eqb-true}
use Rattle.std.proofs.lemmas.Bool.{false≢true, eqb-false}
use Rattle.std.proofs.Math.Path.{refl}
use Rattle.lists.specs.Test.{decide, and_left, and_right}
use Rattle.npy_grammar.specs.Text.{all, Run, is_blank, is_lead, is_space, Number, number_text, Next, next_text}
use Rattle.npy_grammar.specs.Text.{nexts_text, Close, bare, comma, close_text, Tuple, none, one, several}
use Rattle.npy_grammar.specs.Text.{tuple_text, tuple_value, Quote, single, double, quote_byte, quoted, Width, eight}
use Rattle.npy_grammar.specs.Text.{four, Order, rows, columns, width_word, order_word, Key, descr, fortran_order}
use Rattle.npy_grammar.specs.Text.{shape, key_word, Written, a_width, an_order, a_shape, value_text, key_of, Values}
use Rattle.npy_grammar.specs.Text.{Agrees, Item, item_text, Apart, Header, header_text, Right}
use Rattle.npy_grammar.specs.Reading.{strip, eat, eats, peek, cap, Got, got, past_comma, Seen, with_rest}
use Rattle.npy_grammar.specs.Reading.{with_width, with_order, with_shape, failed, blanked, read_item, started}
use Rattle.npy_grammar.specs.Reading.{comma_past, items, past_close, is_last, taken}
use Rattle.npy_grammar.specs.Pieces.{Some, no-some, front, front_run, strip-sound, strip-complete, strip-stop}
use Rattle.npy_grammar.specs.Pieces.{strip-run, eat-sound, eat-some, eat-complete}
use Rattle.npy_grammar.specs.Tuples.{some-strip, behind-blanks, past_comma_lem, number-length, comma-peek, comma_past_lem}
use Rattle.npy_grammar.specs.Items.{width_number, order_number, Fresh, noted, ItemRead, item-sound, item-complete, value-length}

-- ---- keys

unfoldable key_number : Key → ℕ
key_number descr = 0
key_number fortran_order = 1
key_number shape = 2

width_some : (w : Width) → width_number w ≡ 0 → ⊥
unfolding width_number
width_some eight h = omega (arith, h)
width_some four h = omega (arith, h)

order-some : (o : Order) → order_number o ≡ 0 → ⊥
unfolding order_number
order-some rows h = omega (arith, h)
order-some columns h = omega (arith, h)

-- a key that is fresh after another was noted is another key
fresh-apart : (w z : Written) (s : Seen) (u : List ℕ) → Fresh z (noted w s u) → Apart (key_of w) (key_of z)
unfolding Fresh noted Apart key_of key_number
fresh-apart (a_width q1 w1) (a_width q2 w2) s u h = λ _. width_some w1 h
fresh-apart (a_width q1 w1) (an_order o2) s u h = λ e. let k = ap key_number e in omega (arith, k)
fresh-apart (a_width q1 w1) (a_shape t2) s u h = λ e. let k = ap key_number e in omega (arith, k)
fresh-apart (an_order o1) (a_width q2 w2) s u h = λ e. let k = ap key_number e in omega (arith, k)
fresh-apart (an_order o1) (an_order o2) s u h = λ _. order-some o1 h
fresh-apart (an_order o1) (a_shape t2) s u h = λ e. let k = ap key_number e in omega (arith, k)
fresh-apart (a_shape t1) (a_width q2 w2) s u h = λ e. let k = ap key_number e in omega (arith, k)
fresh-apart (a_shape t1) (an_order o2) s u h = λ e. let k = ap key_number e in omega (arith, k)
fresh-apart (a_shape t1) (a_shape t2) s u h = λ _. omega (arith, h)

fresh-before : (w z : Written) (s : Seen) (u : List ℕ) → Apart (key_of w) (key_of z) → Fresh z (noted w s u) → Fresh z s
unfolding Fresh noted Apart key_of
fresh-before (a_width q1 w1) (a_width q2 w2) s u p h = absurd (p refl)
fresh-before (a_width q1 w1) (an_order o2) s u p h = h
fresh-before (a_width q1 w1) (a_shape t2) s u p h = h
fresh-before (an_order o1) (a_width q2 w2) s u p h = h
fresh-before (an_order o1) (an_order o2) s u p h = absurd (p refl)
fresh-before (an_order o1) (a_shape t2) s u p h = h
fresh-before (a_shape t1) (a_width q2 w2) s u p h = h
fresh-before (a_shape t1) (an_order o2) s u p h = h
fresh-before (a_shape t1) (a_shape t2) s u p h = absurd (p refl)

fresh-noted : (w z : Written) (s : Seen) (u : List ℕ) → Apart (key_of w) (key_of z) → Fresh z s → Fresh z (noted w s u)
unfolding Fresh noted Apart key_of
fresh-noted (a_width q1 w1) (a_width q2 w2) s u p h = absurd (p refl)
fresh-noted (a_width q1 w1) (an_order o2) s u p h = h
fresh-noted (a_width q1 w1) (a_shape t2) s u p h = h
fresh-noted (an_order o1) (a_width q2 w2) s u p h = h
fresh-noted (an_order o1) (an_order o2) s u p h = absurd (p refl)
fresh-noted (an_order o1) (a_shape t2) s u p h = h
fresh-noted (a_shape t1) (a_width q2 w2) s u p h = h
fresh-noted (a_shape t1) (an_order o2) s u p h = h
fresh-noted (a_shape t1) (a_shape t2) s u p h = absurd (p refl)

fresh-rest : (w : Written) (s : Seen) (u : List ℕ) → Fresh w (with_rest s u) → Fresh w s
unfolding Fresh
fresh-rest (a_width q w) s u h = h
fresh-rest (an_order o) s u h = h
fresh-rest (a_shape t) s u h = h

rest-fresh : (w : Written) (s : Seen) (u : List ℕ) → Fresh w s → Fresh w (with_rest s u)
unfolding Fresh
rest-fresh (a_width q w) s u h = h
rest-fresh (an_order o) s u h = h
rest-fresh (a_shape t) s u h = h

-- ---- what is noted

unfoldable Holds : Written → Seen → Type 0
Holds (a_width q w) s = s.width ≡ width_number w
Holds (an_order o) s = s.order ≡ order_number o
Holds (a_shape t) s = s.shape ≡ map cap (tuple_value t)

holds-noted : (w : Written) (s : Seen) (u : List ℕ) → Holds w (noted w s u)
unfolding Holds noted
holds-noted (a_width q w) s u = refl
holds-noted (an_order o) s u = refl
holds-noted (a_shape t) s u = refl

holds-rest : (w : Written) (s : Seen) (u : List ℕ) → Holds w s → Holds w (with_rest s u)
unfolding Holds
holds-rest (a_width q w) s u h = h
holds-rest (an_order o) s u h = h
holds-rest (a_shape t) s u h = h

holds-keeps : (w z : Written) (s : Seen) (u : List ℕ) → Apart (key_of w) (key_of z) → Holds w s → Holds w (noted z s u)
unfolding Holds noted Apart key_of
holds-keeps (a_width q1 w1) (a_width q2 w2) s u p h = absurd (p refl)
holds-keeps (a_width q1 w1) (an_order o2) s u p h = h
holds-keeps (a_width q1 w1) (a_shape t2) s u p h = h
holds-keeps (an_order o1) (a_width q2 w2) s u p h = h
holds-keeps (an_order o1) (an_order o2) s u p h = absurd (p refl)
holds-keeps (an_order o1) (a_shape t2) s u p h = h
holds-keeps (a_shape t1) (a_width q2 w2) s u p h = h
holds-keeps (a_shape t1) (an_order o2) s u p h = h
holds-keeps (a_shape t1) (a_shape t2) s u p h = absurd (p refl)

noted-rest : (w : Written) (s : Seen) (u : List ℕ) → (noted w s u).rest ≡ u
unfolding noted
noted-rest (a_width q w) s u = refl
noted-rest (an_order o) s u = refl
noted-rest (a_shape t) s u = refl

-- what was read says v: numbers above 64 are kept as 65
pub record Means (s : Seen) (v : Values) : Type 0 where
  pub width : s.width ≡ width_number v.width
  pub order : s.order ≡ order_number v.order
  pub shape : s.shape ≡ map cap v.shape

record Agreed (x y z : Written) : Type 0 where
  pub values : Values
  pub says₁ : Agrees x values
  pub says₂ : Agrees y values
  pub says₃ : Agrees z values

agreed : (x y z : Written) → Apart (key_of x) (key_of y) → Apart (key_of x) (key_of z) → Apart (key_of y) (key_of z) → Agreed x y z
unfolding Apart key_of Agrees
agreed (a_width q1 w1) (a_width q2 w2) z p q r = absurd (p refl)
agreed (a_width q1 w1) (an_order o2) (a_width q3 w3) p q r = absurd (q refl)
agreed (a_width q1 w1) (an_order o2) (an_order o3) p q r = absurd (r refl)
agreed (a_width q1 w1) (an_order o2) (a_shape t3) p q r =
    record {
      values = record { width = w1; order = o2; shape = tuple_value t3 };
      says₁ = refl;
      says₂ = refl;
      says₃ = refl;
    }
agreed (a_width q1 w1) (a_shape t2) (a_width q3 w3) p q r = absurd (q refl)
agreed (a_width q1 w1) (a_shape t2) (an_order o3) p q r =
    record {
      values = record { width = w1; order = o3; shape = tuple_value t2 };
      says₁ = refl;
      says₂ = refl;
      says₃ = refl;
    }
agreed (a_width q1 w1) (a_shape t2) (a_shape t3) p q r = absurd (r refl)
agreed (an_order o1) (an_order o2) z p q r = absurd (p refl)
agreed (an_order o1) (a_width q2 w2) (a_width q3 w3) p q r = absurd (r refl)
agreed (an_order o1) (a_width q2 w2) (an_order o3) p q r = absurd (q refl)
agreed (an_order o1) (a_width q2 w2) (a_shape t3) p q r =
    record {
      values = record { width = w2; order = o1; shape = tuple_value t3 };
      says₁ = refl;
      says₂ = refl;
      says₃ = refl;
    }
agreed (an_order o1) (a_shape t2) (a_width q3 w3) p q r =
    record {
      values = record { width = w3; order = o1; shape = tuple_value t2 };
      says₁ = refl;
      says₂ = refl;
      says₃ = refl;
    }
agreed (an_order o1) (a_shape t2) (an_order o3) p q r = absurd (q refl)
agreed (an_order o1) (a_shape t2) (a_shape t3) p q r = absurd (r refl)
agreed (a_shape t1) (a_shape t2) z p q r = absurd (p refl)
agreed (a_shape t1) (a_width q2 w2) (a_width q3 w3) p q r = absurd (r refl)
agreed (a_shape t1) (a_width q2 w2) (an_order o3) p q r =
    record {
      values = record { width = w2; order = o3; shape = tuple_value t1 };
      says₁ = refl;
      says₂ = refl;
      says₃ = refl;
    }
agreed (a_shape t1) (a_width q2 w2) (a_shape t3) p q r = absurd (q refl)
agreed (a_shape t1) (an_order o2) (a_width q3 w3) p q r =
    record {
      values = record { width = w3; order = o2; shape = tuple_value t1 };
      says₁ = refl;
      says₂ = refl;
      says₃ = refl;
    }
agreed (a_shape t1) (an_order o2) (an_order o3) p q r = absurd (r refl)
agreed (a_shape t1) (an_order o2) (a_shape t3) p q r = absurd (q refl)

means : (x y z : Written) (s : Seen) (v : Values) → Apart (key_of x) (key_of y) → Apart (key_of x) (key_of z) → Apart (key_of y) (key_of z)
    → Holds x s → Holds y s → Holds z s → Agrees x v → Agrees y v → Agrees z v → Means s v
unfolding Apart key_of Agrees Holds
means (a_width q1 w1) (a_width q2 w2) z s v p q r h1 h2 h3 g1 g2 g3 = absurd (p refl)
means (a_width q1 w1) (an_order o2) (a_width q3 w3) s v p q r h1 h2 h3 g1 g2 g3 = absurd (q refl)
means (a_width q1 w1) (an_order o2) (an_order o3) s v p q r h1 h2 h3 g1 g2 g3 = absurd (r refl)
means (a_width q1 w1) (an_order o2) (a_shape t3) s v p q r h1 h2 h3 g1 g2 g3 =
    record { width = h1 ∙ ap width_number g1; order = h2 ∙ ap order_number g2; shape = h3 ∙ ap (map cap) g3 }
means (a_width q1 w1) (a_shape t2) (a_width q3 w3) s v p q r h1 h2 h3 g1 g2 g3 = absurd (q refl)
means (a_width q1 w1) (a_shape t2) (an_order o3) s v p q r h1 h2 h3 g1 g2 g3 =
    record { width = h1 ∙ ap width_number g1; order = h3 ∙ ap order_number g3; shape = h2 ∙ ap (map cap) g2 }
means (a_width q1 w1) (a_shape t2) (a_shape t3) s v p q r h1 h2 h3 g1 g2 g3 = absurd (r refl)
means (an_order o1) (an_order o2) z s v p q r h1 h2 h3 g1 g2 g3 = absurd (p refl)
means (an_order o1) (a_width q2 w2) (a_width q3 w3) s v p q r h1 h2 h3 g1 g2 g3 = absurd (r refl)
means (an_order o1) (a_width q2 w2) (an_order o3) s v p q r h1 h2 h3 g1 g2 g3 = absurd (q refl)
means (an_order o1) (a_width q2 w2) (a_shape t3) s v p q r h1 h2 h3 g1 g2 g3 =
    record { width = h2 ∙ ap width_number g2; order = h1 ∙ ap order_number g1; shape = h3 ∙ ap (map cap) g3 }
means (an_order o1) (a_shape t2) (a_width q3 w3) s v p q r h1 h2 h3 g1 g2 g3 =
    record { width = h3 ∙ ap width_number g3; order = h1 ∙ ap order_number g1; shape = h2 ∙ ap (map cap) g2 }
means (an_order o1) (a_shape t2) (an_order o3) s v p q r h1 h2 h3 g1 g2 g3 = absurd (q refl)
means (an_order o1) (a_shape t2) (a_shape t3) s v p q r h1 h2 h3 g1 g2 g3 = absurd (r refl)
means (a_shape t1) (a_shape t2) z s v p q r h1 h2 h3 g1 g2 g3 = absurd (p refl)
means (a_shape t1) (a_width q2 w2) (a_width q3 w3) s v p q r h1 h2 h3 g1 g2 g3 = absurd (r refl)
means (a_shape t1) (a_width q2 w2) (an_order o3) s v p q r h1 h2 h3 g1 g2 g3 =
    record { width = h2 ∙ ap width_number g2; order = h3 ∙ ap order_number g3; shape = h1 ∙ ap (map cap) g1 }
means (a_shape t1) (a_width q2 w2) (a_shape t3) s v p q r h1 h2 h3 g1 g2 g3 = absurd (q refl)
means (a_shape t1) (an_order o2) (a_width q3 w3) s v p q r h1 h2 h3 g1 g2 g3 =
    record { width = h3 ∙ ap width_number g3; order = h2 ∙ ap order_number g2; shape = h1 ∙ ap (map cap) g1 }
means (a_shape t1) (an_order o2) (an_order o3) s v p q r h1 h2 h3 g1 g2 g3 = absurd (r refl)
means (a_shape t1) (an_order o2) (a_shape t3) s v p q r h1 h2 h3 g1 g2 g3 = absurd (q refl)

-- three values, one after the other
module _ (x y z : Written) (a b c : Seen) (s : Seen) (u₁ u₂ u₃ v₁ v₂ : List ℕ) (e₁ : a ≡ noted x s u₁)
    (e₂ : b ≡ noted y (with_rest a v₁) u₂) (e₃ : c ≡ noted z (with_rest b v₂) u₃) where
  first_holds : Apart (key_of x) (key_of y) → Apart (key_of x) (key_of z) → Holds x c
  first_holds p q =
      let h₁ : Holds x a = rw e₁ (holds-noted x s u₁) in
      let h₂ : Holds x b = rw e₂ (holds-keeps x y (with_rest a v₁) u₂ p (holds-rest x a v₁ h₁)) in
      rw e₃ (holds-keeps x z (with_rest b v₂) u₃ q (holds-rest x b v₂ h₂))

  second_holds : Apart (key_of y) (key_of z) → Holds y c
  second_holds r =
      let h₂ : Holds y b = rw e₂ (holds-noted y (with_rest a v₁) u₂) in
      rw e₃ (holds-keeps y z (with_rest b v₂) u₃ r (holds-rest y b v₂ h₂))

  third-holds : Holds z c
  third-holds = rw e₃ (holds-noted z (with_rest b v₂) u₃)

-- ---- the end

last-is : (r : List ℕ) → is_last r ≡ true → r ≡ 10 ∷ []
unfolding is_last
last-is [] h = absurd (false≢true h)
last-is (b ∷ []) h = rw (eqb-true b 10 h)
last-is (b ∷ (c ∷ r)) h = let k = eqb-true (length (b ∷ (c ∷ r))) 1 (and_left (eqb (length (b ∷ (c ∷ r))) 1) (eqb b 10) h) in absurd (omega (arith, k))

record CloseRead (r u : List ℕ) : Type 0 where
  pub close : Close
  pub text : r ≡ close_text 125 close u

close-comma : (r : List ℕ) → Some (eat 125 (past_comma r)) → CloseRead r (eat 125 (past_comma r))
unfolding close_text
close-comma r k =
    record {
      close = comma (front_run is_blank r) (front_run is_blank (eat 44 (strip is_blank r)));
      text =
          past_comma_lem r (eat-some 125 (past_comma r) k)
          ∙ ap (λ (l : List ℕ). front is_blank r ++ (44 ∷ (front is_blank (eat 44 (strip is_blank r)) ++ l)))
          (eat-sound 125 (past_comma r) k);
    }

close-bare : (r : List ℕ) → Some (eat 125 (strip is_blank r)) → CloseRead r (eat 125 (strip is_blank r))
unfolding close_text
close-bare r k = record { close = bare (front_run is_blank r); text = behind-blanks 125 r k }

close-sound : (r : List ℕ) → Some (past_close r) → CloseRead r (past_close r)
unfolding past_close
close-sound r h =
    decide (eqb (peek (strip is_blank r)) 44)
    (λ e. let k = rw e at h in rw e (close-comma r k))
    (λ e. let k = rw e at h in rw e (close-bare r k))

blank_125 : is_blank 125 ≡ false
unfolding is_blank
blank_125 = refl

close-past : (c : Close) (u : List ℕ) → past_close (close_text 125 c u) ≡ u
unfolding past_close close_text
close-past (bare b) u = rw (strip-run is_blank b 125 u blank_125) (eat-complete 125 u)
close-past (comma a b) u = rw (comma-peek a (b.bytes ++ (125 ∷ u)), comma_past_lem a b (125 ∷ u), strip-stop is_blank 125 u blank_125) (eat-complete 125 u)

close-from : (r u : List ℕ) → CloseRead r u → Some r
unfolding close_text
close-from r u c = go c.close c.text
  where
    go : (c : Close) → r ≡ close_text 125 c u → Some r
    go (bare b) e = omega (arith, ap length e, length-append b.bytes (125 ∷ u))
    go (comma a b) e = omega (arith, ap length e, length-append a.bytes (44 ∷ (b.bytes ++ (125 ∷ u))))

item_from : (s z : Seen) → ItemRead s z → Some s.rest
unfolding item_text quoted
item_from s z i =
    let t = i.item in
    let q = quote_byte t.quote in
    let w = key_word (key_of t.written) ++ (q ∷ (t.colon.bytes ++ (58 ∷ (t.behind.bytes ++ value_text t.written z.rest)))) in
    omega (arith, ap length i.text, length-append t.before.bytes (q ∷ w))

-- ---- sound

-- a comma between two items
comma-sound : (s : Seen) → Some (comma_past s).rest → s.rest ≡ front is_blank s.rest ++ (44 ∷ (comma_past s).rest)
comma-sound s h = behind-blanks 44 s.rest h

-- a header that was taken
pub record Taken (t : List ℕ) (s : Seen) : Type 0 where
  pub values : Values
  pub right : Right t values
  pub means : Means s values

header_made : (t u p : List ℕ) (a b c : Seen) → is_last (strip is_space p) ≡ true → CloseRead c.rest p
    → ItemRead (comma_past b) c → ItemRead (comma_past a) b → ItemRead (started t) a → Taken t c
unfolding header_text
header_made t u p a b c last close i₃ i₂ i₁ =
    let x = i₁.item.written in
    let y = i₂.item.written in
    let z = i₃.item.written in
    let f₂ : Fresh y (noted x (started t) a.rest) = rw i₁.is at (fresh-rest y a (comma_past a).rest i₂.fresh) in
    let p₁ = fresh-apart x y (started t) a.rest f₂ in
    let f₃ : Fresh z (noted y (comma_past a) b.rest) = rw i₂.is at (fresh-rest z b (comma_past b).rest i₃.fresh) in
    let p₃ = fresh-apart y z (comma_past a) b.rest f₃ in
    let f₄ : Fresh z (noted x (started t) a.rest) = rw i₁.is at (fresh-rest z a (comma_past a).rest (fresh-before y z (comma_past a) b.rest p₃ f₃)) in
    let p₂ = fresh-apart x z (started t) a.rest f₄ in
    let v = agreed x y z p₁ p₂ p₃ in
    let k₁ = item_from (started t) a i₁ in
    let k₂ = item_from (comma_past a) b i₂ in
    let k₃ = item_from (comma_past b) c i₃ in
    record {
      values = v.values;
      right =
          record {
            header =
                record {
                  lead = front_run is_lead t;
                  first = i₁.item;
                  comma₁ = front_run is_blank a.rest;
                  second = i₂.item;
                  comma₂ = front_run is_blank b.rest;
                  third = i₃.item;
                  close = close.close;
                  pad = front_run is_space p;
                  apart₁ = p₁;
                  apart₂ = p₂;
                  apart₃ = p₃;
                };
            text =
                strip-sound is_lead t
                ∙ ap (λ (l : List ℕ). front is_lead t ++ l)
                (eat-sound 123 (strip is_lead t) k₁
                ∙ ap (λ (l : List ℕ). 123 ∷ l)
                (i₁.text
                ∙ ap (item_text i₁.item)
                (comma-sound a k₂
                ∙ ap (λ (l : List ℕ). front is_blank a.rest ++ (44 ∷ l))
                (i₂.text
                ∙ ap (item_text i₂.item)
                (comma-sound b k₃
                ∙ ap (λ (l : List ℕ). front is_blank b.rest ++ (44 ∷ l))
                (i₃.text
                ∙ ap (item_text i₃.item)
                (close.text ∙ ap (close_text 125 close.close)
                (strip-sound is_space p ∙ ap (λ (l : List ℕ). front is_space p ++ l)
                (last-is (strip is_space p) last)))))))));
            says₁ = v.says₁;
            says₂ = v.says₂;
            says₃ = v.says₃;
          };
      means =
          means x y z c v.values p₁ p₂ p₃
          (first_holds x y z a b c (started t) a.rest b.rest c.rest (comma_past a).rest (comma_past b).rest i₁.is i₂.is i₃.is p₁ p₂)
          (second_holds x y z a b c (started t) a.rest b.rest c.rest (comma_past a).rest (comma_past b).rest i₁.is i₂.is i₃.is p₃)
          (third-holds x y z a b c (started t) a.rest b.rest c.rest (comma_past a).rest (comma_past b).rest i₁.is i₂.is i₃.is)
          v.says₁
          v.says₂
          v.says₃;
    }

some-space : (r : List ℕ) → strip is_space r ≡ 10 ∷ [] → Some r
some-space r e = omega (arith, ap length (strip-sound is_space r), length-append (front is_space r) (strip is_space r), ap length e)

pub header-sound : (f : ℕ) (t : List ℕ) → taken f t ≡ true → Taken t (items f t)
unfolding taken
header-sound f t h =
    let a = read_item f (started t) in
    let b = read_item f (comma_past a) in
    let c = read_item f (comma_past b) in
    let p = past_close c.rest in
    let close = close-sound c.rest (some-space p (last-is (strip is_space p) h)) in
    let i₃ = item-sound f (comma_past b) (close-from c.rest p close) in
    let i₂ = item-sound f (comma_past a) (some-strip b.rest (eat-some 44 (strip is_blank b.rest) (item_from (comma_past b) c i₃))) in
    let i₁ = item-sound f (started t) (some-strip a.rest (eat-some 44 (strip is_blank a.rest) (item_from (comma_past a) b i₂))) in
    header_made t [] p a b c h close i₃ i₂ i₁

-- ---- complete

close-longer : (x : ℕ) (c : Close) (u : List ℕ) → length u ≤ length (close_text x c u)
unfolding close_text
close-longer x (bare b) u = omega (arith, length-append b.bytes (x ∷ u))
close-longer x (comma a b) u = omega (arith, length-append a.bytes (44 ∷ (b.bytes ++ (x ∷ u))), length-append b.bytes (x ∷ u))

next-longer : (n : Next) (u : List ℕ) → length u ≤ length (next_text n u)
unfolding next_text
next-longer n u =
    let v = number_text n.number u in
    omega (arith, length-append n.before.bytes (44 ∷ (n.behind.bytes ++ v)), length-append n.behind.bytes v, number-length n.number u)

nexts-longer : (ns : List Next) (u : List ℕ) → length u ≤ length (nexts_text ns u)
unfolding nexts_text
nexts-longer [] u = omega arith
nexts-longer (n ∷ ns) u = omega (arith, nexts-longer ns u, next-longer n (nexts_text ns u))

tuple-longer : (t : Tuple) (u : List ℕ) → length u ≤ length (tuple_text t u)
unfolding tuple_text
tuple-longer (none b) u = omega (arith, length-append b.bytes (41 ∷ u))
tuple-longer (one a n b c) u =
    let v = close_text 41 (comma b c) u in
    omega (arith, length-append a.bytes (number_text n v), number-length n v, close-longer 41 (comma b c) u)
tuple-longer (several a n m ms c) u =
    let w = close_text 41 c u in
    let v = next_text m (nexts_text ms w) in
    omega (arith, length-append a.bytes (number_text n v), number-length n v, next-longer m (nexts_text ms w), nexts-longer ms w, close-longer 41 c u)

value-longer : (w : Written) (u : List ℕ) → length u ≤ length (value_text w u)
unfolding value_text quoted
value-longer (a_width q w) u = omega (arith, length-append (width_word w) (quote_byte q ∷ u))
value-longer (an_order o) u = omega (arith, length-append (order_word o) u)
value-longer (a_shape t) u = tuple-longer t u

item-longer : (i : Item) (u : List ℕ) → length u ≤ length (item_text i u)
item-longer i u = omega (arith, value-length i u, value-longer i.written u)

-- the text from each item on
module _ (h : Header) where
  abbrev ending : List ℕ
  ending = close_text 125 h.close (h.pad.bytes ++ (10 ∷ []))

  abbrev thirds : List ℕ
  thirds = item_text h.third ending

  abbrev seconds : List ℕ
  seconds = item_text h.second (h.comma₂.bytes ++ (44 ∷ thirds))

  abbrev firsts : List ℕ
  firsts = item_text h.first (h.comma₁.bytes ++ (44 ∷ seconds))

  text-is : header_text h ≡ h.lead.bytes ++ (123 ∷ firsts)
  unfolding header_text
  text-is = refl

  second_short : length seconds ≤ length firsts
  second_short = omega (arith, item-longer h.first (h.comma₁.bytes ++ (44 ∷ seconds)), length-append h.comma₁.bytes (44 ∷ seconds))

  third-short : length thirds ≤ length seconds
  third-short = omega (arith, item-longer h.second (h.comma₂.bytes ++ (44 ∷ thirds)), length-append h.comma₂.bytes (44 ∷ thirds))

  first_short : length firsts ≤ length (header_text h)
  first_short = rw text-is (omega (arith, length-append h.lead.bytes (123 ∷ firsts)))

lead_123 : is_lead 123 ≡ false
unfolding is_lead
lead_123 = refl

space_10 : is_space 10 ≡ false
unfolding is_space
space_10 = refl

blank_44 : is_blank 44 ≡ false
unfolding is_blank
blank_44 = refl

last-newline : is_last (10 ∷ []) ≡ true
unfolding is_last
last-newline = refl

fresh-none : (w : Written) (t : List ℕ) → Fresh w (started t)
unfolding Fresh
fresh-none (a_width q w) t = refl
fresh-none (an_order o) t = refl
fresh-none (a_shape s) t = refl

comma-rest : (s : Seen) (b : Run is_blank) (u : List ℕ) → s.rest ≡ b.bytes ++ (44 ∷ u) → (comma_past s).rest ≡ u
comma-rest s b u e = rw (e, strip-run is_blank b 44 u blank_44) (eat-complete 44 u)

rest_of : (w : Written) (s z : Seen) (u : List ℕ) → z ≡ noted w s u → z.rest ≡ u
rest_of w s z u e = ap (λ (x : Seen). x.rest) e ∙ noted-rest w s u

fresh-after : (w z : Written) (s a : Seen) (u v : List ℕ) → a ≡ noted w s u → Apart (key_of w) (key_of z) → Fresh z s → Fresh z (with_rest a v)
fresh-after w z s a u v e p h = rest-fresh z a v (rw e (fresh-noted w z s u p h))

pub header-complete : (f : ℕ) {t : List ℕ} {v : Values} → length t ≤ f → Right t v → (taken f t ≡ true) × Means (items f t) v
unfolding taken
header-complete f {t} {v} l r =
    let h = r.header in
    let x = h.first.written in
    let y = h.second.written in
    let z = h.third.written in
    let u₁ = h.comma₁.bytes ++ (44 ∷ seconds h) in
    let u₂ = h.comma₂.bytes ++ (44 ∷ thirds h) in
    let u₃ = ending h in
    let m : length (firsts h) ≤ f = omega (arith, l, ap length r.text, first_short h) in
    let s₀ = started t in
    let b₀ : s₀.rest ≡ firsts h =
    ap (λ (q : List ℕ). eat 123 (strip is_lead q)) (r.text ∙ text-is h)
    ∙ (ap (eat 123) (strip-run is_lead h.lead 123 (firsts h) lead_123) ∙ eat-complete 123 (firsts h)) in
    let a = read_item f s₀ in
    let e₁ : a ≡ noted x s₀ u₁ = item-complete f s₀ h.first u₁ b₀ m (fresh-none x t) in
    let s₁ = comma_past a in
    let b₁ : s₁.rest ≡ seconds h = comma-rest a h.comma₁ (seconds h) (rest_of x s₀ a u₁ e₁) in
    let b = read_item f s₁ in
    let f₂ : Fresh y s₁ = fresh-after x y s₀ a u₁ s₁.rest e₁ h.apart₁ (fresh-none y t) in
    let e₂ : b ≡ noted y s₁ u₂ = item-complete f s₁ h.second u₂ b₁ (omega (arith, m, second_short h)) f₂ in
    let s₂ = comma_past b in
    let b₂ : s₂.rest ≡ thirds h = comma-rest b h.comma₂ (thirds h) (rest_of y s₁ b u₂ e₂) in
    let c = read_item f s₂ in
    let f₃ : Fresh z s₁ = fresh-after x z s₀ a u₁ s₁.rest e₁ h.apart₂ (fresh-none z t) in
    let f₄ : Fresh z s₂ = fresh-after y z s₁ b u₂ s₂.rest e₂ h.apart₃ f₃ in
    let e₃ : c ≡ noted z s₂ u₃ = item-complete f s₂ h.third u₃ b₂ (omega (arith, m, second_short h, third-short h)) f₄ in
    let b₃ : c.rest ≡ ending h = rest_of z s₂ c u₃ e₃ in
    let p : strip is_space (past_close c.rest) ≡ 10 ∷ [] =
    ap (λ (q : List ℕ). strip is_space (past_close q)) b₃
    ∙ (ap (strip is_space) (close-past h.close (h.pad.bytes ++ (10 ∷ []))) ∙ strip-run is_space h.pad 10 [] space_10) in (
      ap is_last p ∙ last-newline,
      means x y z c v h.apart₁ h.apart₂ h.apart₃
          (first_holds x y z a b c s₀ u₁ u₂ u₃ s₁.rest s₂.rest e₁ e₂ e₃ h.apart₁ h.apart₂)
          (second_holds x y z a b c s₀ u₁ u₂ u₃ s₁.rest s₂.rest e₁ e₂ e₃ h.apart₃)
          (third-holds x y z a b c s₀ u₁ u₂ u₃ s₁.rest s₂.rest e₁ e₂ e₃)
          r.says₁
          r.says₂
          r.says₃,
    )

-- a text says one width, one order and one shape, numbers above 64 being alike
width_one : (a b : Width) → width_number a ≡ width_number b → a ≡ b
unfolding width_number
width_one eight eight e = refl
width_one eight four e = absurd (omega (arith, e))
width_one four eight e = absurd (omega (arith, e))
width_one four four e = refl

order-one : (a b : Order) → order_number a ≡ order_number b → a ≡ b
unfolding order_number
order-one rows rows e = refl
order-one rows columns e = absurd (omega (arith, e))
order-one columns rows e = absurd (omega (arith, e))
order-one columns columns e = refl

pub record Same (v w : Values) : Type 0 where
  pub width : v.width ≡ w.width
  pub order : v.order ≡ w.order
  pub shape : map cap v.shape ≡ map cap w.shape

pub header-one : (t : List ℕ) (v w : Values) → Right t v → Right t w → Same v w
header-one t v w a b =
    let x = (header-complete (length t) (omega arith) a).1 in
    let y = (header-complete (length t) (omega arith) b).1 in
    record {
      width = width_one v.width w.width (sym x.width ∙ y.width);
      order = order-one v.order w.order (sym x.order ∙ y.order);
      shape = sym x.shape ∙ y.shape;
    }
