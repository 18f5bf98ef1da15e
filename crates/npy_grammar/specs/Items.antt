-- An item is read exactly.
use Rattle.std.specs.Prelude.{ℕ, zero, suc, ◌+◌, ◌-◌, ◌*◌, ◌≤◌, ◌<◌, min, List, [], ◌∷◌, ◌++◌, map, Bool, true}
use Rattle.std.specs.Prelude.{false, ◌&&◌, ◌||◌, cond, ◌≡◌, refl, leb, eqb, length, get_or}
use Rattle.std.proofs.Common.{append_assoc, append-nil, sym, ap, ◌∙◌, arith, length-append, eqb-true, eq-eqb, ne_eqb, leb-true, le-leb}
use Rattle.std.proofs.lemmas.Bool.{false≢true, eqb-false}
use Rattle.lists.specs.Test.{decide, and_left, and_right, or_right}
use Rattle.npy_grammar.specs.Text.{all, Run, is_blank, Close, bare, comma, close_text, Tuple, none, one, several}
use Rattle.npy_grammar.specs.Text.{tuple_text, tuple_value, Quote, single, double, quote_byte, quoted, Width, eight}
use Rattle.npy_grammar.specs.Text.{four, Order, rows, columns, width_word, order_word, Key, descr, fortran_order}
use Rattle.npy_grammar.specs.Text.{shape, key_word, Written, a_width, an_order, a_shape, value_text, key_of, Item}
use Rattle.npy_grammar.specs.Text.{item_text}
use Rattle.npy_grammar.specs.Reading.{strip, eat, eats, peek, cap, Got, got, read_tuple, is_quote, past_kind}
use Rattle.npy_grammar.specs.Reading.{past_width, width_at, past_order, order_at, Seen, with_rest, with_width}
use Rattle.npy_grammar.specs.Reading.{with_order, with_shape, failed, past_key, read_descr, read_order, read_shape}
use Rattle.npy_grammar.specs.Reading.{read_key, blanked, read_item}
use Rattle.npy_grammar.specs.Pieces.{Some, no-some, front, front_run, strip-sound, strip-complete, strip-stop}
use Rattle.npy_grammar.specs.Pieces.{strip-run, eat-sound, eat-some, eat-complete, eats-some, eats-sound}
use Rattle.npy_grammar.specs.Pieces.{eats-complete}
use Rattle.npy_grammar.specs.Tuples.{some-strip, behind-blanks, TupleRead, tuple-sound, tuple-complete, tuple-some-rest}

-- ---- quotes and words

unfoldable quote_of : ℕ → Quote
quote_of b = cond (eqb b 39) single double

quote_of_lem : (b : ℕ) → is_quote b ≡ true → quote_byte (quote_of b) ≡ b
unfolding is_quote quote_of quote_byte
quote_of_lem b h =
    decide (eqb b 39)
    (λ e. rw e (sym (eqb-true b 39 e)))
    (λ e. rw e (sym (eqb-true b 34 (or_right (eqb b 39) (eqb b 34) h e))))

unfoldable pub width_number : Width → ℕ
width_number eight = 8
width_number four = 4

unfoldable pub order_number : Order → ℕ
order_number rows = 1
order_number columns = 2

-- a quoted width stands before u
record WidthRead (r u : List ℕ) (x : ℕ) : Type 0 where
  pub quote : Quote
  pub width : Width
  pub text : r ≡ quoted quote (width_word width) u
  pub value : x ≡ width_number width

kind-is : (r : List ℕ) (d : ℕ) → is_quote (peek r) ≡ true → Some (eat (peek r) (eat d (past_kind r)))
    → r ≡ quote_byte (quote_of (peek r)) ∷ (60 ∷ (102 ∷ (d ∷ (quote_byte (quote_of (peek r)) ∷ eat (peek r) (eat d (past_kind r))))))
kind-is r d q h =
    let q' = quote_of_lem (peek r) q in
    let a = eat-some (peek r) (eat d (past_kind r)) h in
    let b = eat-some d (past_kind r) a in
    let c = eats-some (60 ∷ 102 ∷ []) (eat (peek r) r) b in
    rw q'
    (eat-sound (peek r) r c
    ∙ ap (λ (l : List ℕ). peek r ∷ l)
    (eats-sound (60 ∷ 102 ∷ []) (eat (peek r) r) b
    ∙ ap (λ (l : List ℕ). 60 ∷ (102 ∷ l)) (eat-sound d (past_kind r) a ∙ ap (λ (l : List ℕ). d ∷ l) (eat-sound (peek r) (eat d (past_kind r)) h))))

width-sound : (r : List ℕ) → Some (past_width r) → WidthRead r (past_width r) (width_at r)
unfolding past_width width_at quoted width_word width_number
width-sound r h =
    decide (is_quote (peek r))
    (λ q.
    decide (eqb (peek (past_kind r)) 56)
    (λ e. let k = rw (q, e) at h in rw (q, e) (record { quote = quote_of (peek r); width = eight; text = kind-is r 56 q k; value = refl }))
    (λ e. let k = rw (q, e) at h in rw (q, e) (record { quote = quote_of (peek r); width = four; text = kind-is r 52 q k; value = refl })))
    (λ q. no-some (rw q at h))

width-past : (q : Quote) (w : Width) (u : List ℕ) → past_width (quoted q (width_word w) u) ≡ u
unfolding past_width quoted width_word quote_byte is_quote eat eats
width-past single eight u = refl
width-past single four u = refl
width-past double eight u = refl
width-past double four u = refl

width-value : (q : Quote) (w : Width) (u : List ℕ) → width_at (quoted q (width_word w) u) ≡ width_number w
unfolding width_at quoted width_word quote_byte eat eats width_number
width-value single eight u = refl
width-value single four u = refl
width-value double eight u = refl
width-value double four u = refl

record OrderRead (r u : List ℕ) (x : ℕ) : Type 0 where
  pub order : Order
  pub text : r ≡ order_word order ++ u
  pub value : x ≡ order_number order

order-sound : (r : List ℕ) → Some (past_order r) → OrderRead r (past_order r) (order_at r)
unfolding past_order order_at order_number
order-sound r h =
    decide (eqb (peek r) 84)
    (λ e. let k = rw e at h in rw e (record { order = columns; text = eats-sound (order_word columns) r k; value = refl }))
    (λ e. let k = rw e at h in rw e (record { order = rows; text = eats-sound (order_word rows) r k; value = refl }))

order-past : (o : Order) (u : List ℕ) → past_order (order_word o ++ u) ≡ u
unfolding past_order order_word eat eats
order-past rows u = refl
order-past columns u = refl

order_value : (o : Order) (u : List ℕ) → order_at (order_word o ++ u) ≡ order_number o
unfolding order_at order_word order_number
order_value rows u = refl
order_value columns u = refl

-- ---- keys

abbrev colon_of : ℕ → List ℕ → List ℕ → List ℕ
colon_of q w r = eat q (eats w r)

key-some : (q : ℕ) (w r : List ℕ) → Some (past_key q w r) → Some (eat 58 (strip is_blank (colon_of q w r)))
unfolding past_key
key-some q w r h = some-strip (eat 58 (strip is_blank (colon_of q w r))) h

key-sound : (q : ℕ) (w r : List ℕ) → Some (past_key q w r)
    → r ≡ w ++ (q ∷ (front is_blank (colon_of q w r) ++ (58 ∷ (front is_blank (eat 58 (strip is_blank (colon_of q w r))) ++ past_key q w r))))
unfolding past_key
key-sound q w r h =
    let c = colon_of q w r in
    let a = key-some q w r h in
    let b = some-strip c (eat-some 58 (strip is_blank c) a) in
    eats-sound w r (eat-some q (eats w r) b)
    ∙ ap (λ (l : List ℕ). w ++ l)
    (eat-sound q (eats w r) b
    ∙ ap (λ (l : List ℕ). q ∷ l)
    (behind-blanks 58 c a ∙ ap (λ (l : List ℕ). front is_blank c ++ (58 ∷ l)) (strip-sound is_blank (eat 58 (strip is_blank c)))))

blank_58 : is_blank 58 ≡ false
unfolding is_blank
blank_58 = refl

key-past : (q : ℕ) (w : List ℕ) (a b : Run is_blank) (u : List ℕ) → past_key q w (w ++ (q ∷ (a.bytes ++ (58 ∷ (b.bytes ++ u))))) ≡ strip is_blank u
unfolding past_key
key-past q w a b u =
    rw (
      eats-complete w (q ∷ (a.bytes ++ (58 ∷ (b.bytes ++ u)))),
      eat-complete q (a.bytes ++ (58 ∷ (b.bytes ++ u))),
      strip-run is_blank a 58 (b.bytes ++ u) blank_58,
      eat-complete 58 (b.bytes ++ u),
    )
    (strip-complete is_blank b.bytes u b.only)

-- ---- values

-- the key has not been
unfoldable pub Fresh : Written → Seen → Type 0
Fresh (a_width q w) s = s.width ≡ 0
Fresh (an_order o) s = s.order ≡ 0
Fresh (a_shape t) s = s.given ≡ 0

-- a value noted, and what is left
unfoldable pub noted : Written → Seen → List ℕ → Seen
noted (a_width q w) s u = with_width s (width_number w) u
noted (an_order o) s u = with_order s (order_number o) u
noted (a_shape t) s u = with_shape s (got u (map cap (tuple_value t)))

-- a value of the key k, behind the colon
record ValueRead (k : Key) (s : Seen) (r : List ℕ) (z : Seen) : Type 0 where
  pub written : Written
  pub key : k ≡ key_of written
  pub text : r ≡ value_text written z.rest
  pub fresh : Fresh written s
  pub is : z ≡ noted written s z.rest

descr-sound : (s : Seen) (r : List ℕ) → Some (read_descr s r).rest → ValueRead descr s r (read_descr s r)
unfolding read_descr key_of value_text Fresh noted
descr-sound s r h =
    decide (eqb s.width 0)
    (λ e.
    let k = rw e at h in
    let w = width-sound r k in
    rw e (record {
      written = a_width w.quote w.width;
      key = refl;
      text = w.text;
      fresh = eqb-true s.width 0 e;
      is = ap (λ (x : ℕ). with_width s x (past_width r)) w.value;
    }))
    (λ e. no-some (rw e at h))

order-read : (s : Seen) (r : List ℕ) → Some (read_order s r).rest → ValueRead fortran_order s r (read_order s r)
unfolding read_order key_of value_text Fresh noted
order-read s r h =
    decide (eqb s.order 0)
    (λ e.
    let k = rw e at h in
    let w = order-sound r k in
    rw e (record {
      written = an_order w.order;
      key = refl;
      text = w.text;
      fresh = eqb-true s.order 0 e;
      is = ap (λ (x : ℕ). with_order s x (past_order r)) w.value;
    }))
    (λ e. no-some (rw e at h))

shape-read : (f : ℕ) (s : Seen) (r : List ℕ) → Some (read_shape f s r).rest → ValueRead shape s r (read_shape f s r)
unfolding read_shape key_of value_text Fresh noted
shape-read f s r h =
    decide (eqb s.given 0)
    (λ e.
    let k = rw e at h in
    let w = tuple-sound f r k in
    rw e (record {
      written = a_shape w.tuple;
      key = refl;
      text = w.text;
      fresh = eqb-true s.given 0 e;
      is = ap (λ (x : List ℕ). with_shape s (got (read_tuple f r).rest x)) w.value;
    }))
    (λ e. no-some (rw e at h))

-- an item stands at the front of what was left, and z is what is known behind it
pub record ItemRead (s z : Seen) : Type 0 where
  pub item : Item
  pub text : s.rest ≡ item_text item z.rest
  pub fresh : Fresh item.written s
  pub is : z ≡ noted item.written s z.rest

descr-some : (s : Seen) (r : List ℕ) → Some (read_descr s r).rest → Some r
unfolding read_descr past_width
descr-some s r h =
    decide (eqb s.width 0)
    (λ e.
    decide (is_quote (peek r))
    (λ q.
    decide (eqb (peek (past_kind r)) 56)
    (λ d. kind-some r 56 (rw (e, q, d) at h))
    (λ d. kind-some r 52 (rw (e, q, d) at h)))
    (λ q. no-some (rw (e, q) at h)))
    (λ e. no-some (rw e at h))
  where
    kind-some : (r : List ℕ) (d : ℕ) → Some (eat (peek r) (eat d (past_kind r))) → Some r
    kind-some r d k = eat-some (peek r) r (eats-some (60 ∷ 102 ∷ []) (eat (peek r) r) (eat-some d (past_kind r) (eat-some (peek r) (eat d (past_kind r)) k)))

order-some : (s : Seen) (r : List ℕ) → Some (read_order s r).rest → Some r
unfolding read_order past_order
order-some s r h =
    decide (eqb s.order 0)
    (λ e.
    decide (eqb (peek r) 84)
    (λ d. eats-some (order_word columns) r (rw (e, d) at h))
    (λ d. eats-some (order_word rows) r (rw (e, d) at h)))
    (λ e. no-some (rw e at h))

shape-some : (f : ℕ) (s : Seen) (r : List ℕ) → Some (read_shape f s r).rest → Some r
unfolding read_shape
shape-some f s r h = decide (eqb s.given 0) (λ e. tuple-some-rest f r (rw e at h)) (λ e. no-some (rw e at h))

-- a key and its value, behind the opening quote
record KeyRead (s : Seen) (q : ℕ) (r : List ℕ) (z : Seen) : Type 0 where
  pub written : Written
  pub colon : Run is_blank
  pub behind : Run is_blank
  pub text : r ≡ key_word (key_of written) ++ (q ∷ (colon.bytes ++ (58 ∷ (behind.bytes ++ value_text written z.rest))))
  pub fresh : Fresh written s
  pub is : z ≡ noted written s z.rest

key-made : (s : Seen) (q : ℕ) (k : Key) (r : List ℕ) (z : Seen) → Some (past_key q (key_word k) r) → ValueRead k s (past_key q (key_word k)
    r) z → KeyRead s q r z
key-made s q k r z h v =
    let w = key_word k in
    record {
      written = v.written;
      colon = front_run is_blank (colon_of q w r);
      behind = front_run is_blank (eat 58 (strip is_blank (colon_of q w r)));
      text =
          key-sound q w r h
          ∙ (ap (λ (l : List ℕ). w ++ (q ∷ (front is_blank (colon_of q w r) ++ (58 ∷ (front is_blank (eat 58 (strip is_blank (colon_of q w r))) ++ l))))) v.text
          ∙ ap
          (λ (y : Key).
          key_word y ++ (q ∷ (front is_blank (colon_of q w r)
          ++ (58 ∷ (front is_blank (eat 58 (strip is_blank (colon_of q w r))) ++ value_text v.written z.rest)))))
          v.key);
      fresh = v.fresh;
      is = v.is;
    }

key-read : (f : ℕ) (s : Seen) (q : ℕ) (r : List ℕ) → Some (read_key f s q r).rest → KeyRead s q r (read_key f s q r)
unfolding read_key
key-read f s q r h =
    decide (eqb (peek r) 100)
    (λ e. let k = rw e at h in let p = past_key q (key_word descr) r in rw e (key-made s q descr r (read_descr s p) (descr-some s p k) (descr-sound s p k)))
    (λ e.
    decide (eqb (peek r) 102)
    (λ d.
    let k = rw (e, d) at h in
    let p = past_key q (key_word fortran_order) r in
    rw (e, d) (key-made s q fortran_order r (read_order s p) (order-some s p k) (order-read s p k)))
    (λ d.
    let k = rw (e, d) at h in
    let p = past_key q (key_word shape) r in
    rw (e, d) (key-made s q shape r (read_shape f s p) (shape-some f s p k) (shape-read f s p k))))

key-from : (s : Seen) (q : ℕ) (r : List ℕ) (z : Seen) → KeyRead s q r z → Some r
key-from s q r z k =
    let w = key_word (key_of k.written) in
    let t = k.colon.bytes ++ (58 ∷ (k.behind.bytes ++ value_text k.written z.rest)) in
    omega (arith, ap length k.text, length-append w (q ∷ t))

item-made : (s z : Seen) (q : ℕ) → is_quote q ≡ true → q ≡ peek (blanked s) → KeyRead s q (eat q (blanked s)) z → ItemRead s z
unfolding item_text quoted
item-made s z q h e k =
    let t : List ℕ → List ℕ = λ l. k.colon.bytes ++ (58 ∷ (k.behind.bytes ++ value_text k.written l)) in
    record {
      item = record { before = front_run is_blank s.rest; quote = quote_of q; colon = k.colon; behind = k.behind; written = k.written };
      text =
          behind-blanks q s.rest (key-from s q (eat q (blanked s)) z k)
          ∙ (ap (λ (l : List ℕ). front is_blank s.rest ++ (q ∷ l)) k.text
          ∙ ap
          (λ (x : ℕ).
          front is_blank s.rest
          ++ (x ∷ (key_word (key_of k.written) ++ (x ∷ (k.colon.bytes ++ (58 ∷ (k.behind.bytes ++ value_text k.written z.rest)))))))
          (sym (quote_of_lem q h)));
      fresh = k.fresh;
      is = k.is;
    }

pub item-sound : (f : ℕ) (s : Seen) → Some (read_item f s).rest → ItemRead s (read_item f s)
unfolding read_item
item-sound f s h =
    decide (is_quote (peek (blanked s)))
    (λ e.
    let k = rw e at h in
    let q = peek (blanked s) in
    rw e (item-made s (read_key f s q (eat q (blanked s))) q e refl (key-read f s q (eat q (blanked s)) k)))
    (λ e. no-some (rw e at h))

-- ---- complete

value-strip : (w : Written) (u : List ℕ) → strip is_blank (value_text w u) ≡ value_text w u
unfolding value_text quoted quote_byte order_word tuple_text strip is_blank
value-strip (a_width single w) u = refl
value-strip (a_width double w) u = refl
value-strip (an_order rows) u = refl
value-strip (an_order columns) u = refl
value-strip (a_shape (none b)) u = refl
value-strip (a_shape (one a n b c)) u = refl
value-strip (a_shape (several a n m ms c)) u = refl

-- reading the value of a key behind its colon
unfoldable read_value : ℕ → Key → Seen → List ℕ → Seen
read_value f descr s r = read_descr s r
read_value f fortran_order s r = read_order s r
read_value f shape s r = read_shape f s r

value-complete : (f : ℕ) (s : Seen) (w : Written) (u : List ℕ) → length (value_text w u) ≤ f → Fresh w s → read_value f (key_of w) s
    (value_text w u) ≡ noted w s u
unfolding read_value key_of value_text Fresh noted read_descr read_order read_shape
value-complete f s (a_width q w) u l h = rw (h, width-value q w u, width-past q w u)
value-complete f s (an_order o) u l h = rw (h, order_value o u, order-past o u)
value-complete f s (a_shape t) u l h = rw (h, tuple-complete t f u l)

key-peek : (k : Key) (f : ℕ) (s : Seen) (q : ℕ) (u : List ℕ) → read_key f s q (key_word k ++ u) ≡ read_value f k s (past_key q (key_word k) (key_word k ++ u))
unfolding read_key key_word read_value
key-peek descr f s q u = refl
key-peek fortran_order f s q u = refl
key-peek shape f s q u = refl

quote-is : (q : Quote) → is_quote (quote_byte q) ≡ true
unfolding is_quote quote_byte
quote-is single = refl
quote-is double = refl

quote-blank : (q : Quote) → is_blank (quote_byte q) ≡ false
unfolding is_blank quote_byte
quote-blank single = refl
quote-blank double = refl

item-blanked : (i : Item) (u : List ℕ) → strip is_blank (item_text i u)
    ≡ quoted i.quote (key_word (key_of i.written))
    (i.colon.bytes ++ (58 ∷ (i.behind.bytes ++ value_text i.written u)))
unfolding item_text quoted
item-blanked i u =
    strip-run is_blank i.before (quote_byte i.quote)
    (key_word (key_of i.written) ++ (quote_byte i.quote
    ∷ (i.colon.bytes ++ (58 ∷ (i.behind.bytes ++ value_text i.written u))))) (quote-blank i.quote)

pub value-length : (i : Item) (u : List ℕ) → length (value_text i.written u) ≤ length (item_text i u)
unfolding item_text quoted
value-length i u =
    let v = value_text i.written u in
    let b = i.behind.bytes ++ v in
    let c = i.colon.bytes ++ (58 ∷ b) in
    let w = key_word (key_of i.written) in
    let q = quote_byte i.quote in
    omega (
      arith,
      length-append i.behind.bytes v,
      length-append i.colon.bytes (58 ∷ b),
      length-append w (q ∷ c),
      length-append i.before.bytes (q ∷ (w ++ (q ∷ c))),
    )

pub item-complete : (f : ℕ) (s : Seen) (i : Item) (u : List ℕ) → s.rest ≡ item_text i u → length (item_text i u) ≤ f → Fresh i.written s
    → read_item f s ≡ noted i.written s u
unfolding read_item quoted
item-complete f s i u e l h =
    let w = i.written in
    let k = key_of w in
    let q = quote_byte i.quote in
    let v = value_text w u in
    let c = i.colon.bytes ++ (58 ∷ (i.behind.bytes ++ v)) in
    let b : blanked s ≡ q ∷ (key_word k ++ (q ∷ c)) = ap (strip is_blank) e ∙ item-blanked i u in
    rw (
      b,
      quote-is i.quote,
      eat-complete q (key_word k ++ (q ∷ c)),
      key-peek k f s q (q ∷ c),
      key-past q (key_word k) i.colon i.behind v,
      value-strip w u,
    )
    (value-complete f s w u (omega (arith, l, value-length i u)) h)
