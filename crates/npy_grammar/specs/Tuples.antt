-- A tuple is read exactly.
use Rattle.std.specs.Prelude.{ℕ, zero, suc, ◌+◌, ◌-◌, ◌*◌, ◌≤◌, ◌<◌, min, Bool, true, false, ◌&&◌, ◌||◌, cond, ◌≡◌, refl, leb, eqb, length, get_or}
use mathlib.Core.List.{List, [], ◌∷◌, ◌++◌, append_assoc, append-nil, map}
use Rattle.std.proofs.lemmas.Bool.{false≢true, eqb-false}
use Rattle.std.proofs.Math.Path.{sym, ap}
use Rattle.std.proofs.Common.{◌∙◌, arith, length-append, eqb-true, ne_eqb, leb-true, le-leb}
use Rattle.lists.specs.Test.{decide, and_left, and_right}
use Rattle.lists.specs.Grow.{length_snoc}
use Rattle.npy_grammar.specs.Text.{all, Run, is_digit, is_blank, Number, nought, counted, number_text, number_value}
use Rattle.npy_grammar.specs.Text.{Close, bare, comma, close_text, Next, next_text, nexts_text, nexts_value, Tuple}
use Rattle.npy_grammar.specs.Text.{none, one, several, tuple_text, tuple_value}
use Rattle.npy_grammar.specs.Reading.{strip, eat, peek, past_number, cap, number_at, Got, got, past_comma, more_numbers, inside_tuple, read_tuple}
use Rattle.npy_grammar.specs.Pieces.{Some, no-some, front, front_run, strip-sound, strip-complete, strip-stop}
use Rattle.npy_grammar.specs.Pieces.{strip-run, eat-sound, eat-some, eat-complete, Ended, number-sound}
use Rattle.npy_grammar.specs.Pieces.{number_past, number_value_lem}

-- a list that does not close without a comma while it has one number
unfoldable Enough : ℕ → List Next → Close → Type 0
Enough k [] (bare b) = 2 ≤ k
Enough k [] (comma a b) = 0 ≤ k
Enough k (n ∷ ns) c = 0 ≤ k

-- r is some numbers more and the end, before u; z is s with their values
record MoreRead (s r u z : List ℕ) : Type 0 where
  pub nexts : List Next
  pub close : Close
  pub enough : Enough (length s) nexts close
  pub text : r ≡ nexts_text nexts (close_text 41 close u)
  pub value : z ≡ s ++ map cap (nexts_value nexts)

-- the first byte behind blanks
pub behind-blanks : (c : ℕ) (r : List ℕ) → Some (eat c (strip is_blank r)) → r ≡ front is_blank r ++ (c ∷ eat c (strip is_blank r))
behind-blanks c r h = strip-sound is_blank r ∙ ap (λ (l : List ℕ). front is_blank r ++ l) (eat-sound c (strip is_blank r) h)

pub some-strip : (r : List ℕ) → Some (strip is_blank r) → Some r
some-strip r h = let e = ap length (strip-sound is_blank r) in omega (arith, e, length-append (front is_blank r) (strip is_blank r))

-- a comma and blanks
pub past_comma_lem : (r : List ℕ) → Some (past_comma r) → r ≡ front is_blank r ++ (44 ∷ (front is_blank (eat 44 (strip is_blank r)) ++ past_comma r))
past_comma_lem r h =
    behind-blanks 44 r (some-strip (eat 44 (strip is_blank r)) h)
    ∙ ap (λ (l : List ℕ). front is_blank r ++ (44 ∷ l)) (strip-sound is_blank (eat 44 (strip is_blank r)))

some_number : (t : List ℕ) → Some (past_number t) → Some t
unfolding past_number
some_number [] h = h
some_number (b ∷ t) h = omega arith

more-some : (f : ℕ) (s r : List ℕ) → Some (more_numbers f s r).rest → Some r
unfolding more_numbers
more-some zero s r h = no-some h
more-some (suc f) s r h =
    decide (eqb (peek (strip is_blank r)) 44)
    (λ e.
    decide (eqb (peek (past_comma r)) 41)
    (λ d. some-strip r (eat-some 44 (strip is_blank r) (some-strip (eat 44 (strip is_blank r)) (eat-some 41 (past_comma r) (rw (e, d) at h)))))
    (λ d.
    some-strip r
    (eat-some 44 (strip is_blank r)
    (some-strip (eat 44 (strip is_blank r)) (some_number (past_comma r)
    (more-some f (s ++ (number_at (past_comma r) ∷ [])) (past_number (past_comma r)) (rw (e, d) at h)))))))
    (λ e. decide (leb 2 (length s)) (λ d. some-strip r (eat-some 41 (strip is_blank r) (rw (e, d) at h))) (λ d. no-some (rw (e, d) at h)))

module _ (s r : List ℕ) where
  more-comma : Some (eat 41 (past_comma r)) → MoreRead s r (eat 41 (past_comma r)) s
  unfolding nexts_text close_text nexts_value Enough
  more-comma k =
      record {
        nexts = [];
        close = comma (front_run is_blank r) (front_run is_blank (eat 44 (strip is_blank r)));
        enough = omega arith;
        text =
            past_comma_lem r (eat-some 41 (past_comma r) k)
            ∙ ap (λ (l : List ℕ). front is_blank r ++ (44 ∷ (front is_blank (eat 44 (strip is_blank r)) ++ l))) (eat-sound 41 (past_comma r) k);
        value = sym (append-nil s);
      }

  more-bare : 2 ≤ length s → Some (eat 41 (strip is_blank r)) → MoreRead s r (eat 41 (strip is_blank r)) s
  unfolding nexts_text close_text nexts_value Enough
  more-bare l k =
      record {
        nexts = [];
        close = bare (front_run is_blank r);
        enough = l;
        text = behind-blanks 41 r k;
        value = sym (append-nil s);
      }

  more-next : {u z : List ℕ} → Some (past_number (past_comma r)) → MoreRead (s ++ (number_at (past_comma r) ∷ [])) (past_number
      (past_comma r)) u z → MoreRead s r u z
  unfolding nexts_text next_text nexts_value Enough
  more-next q m =
      let x = number_at (past_comma r) in
      let n = number-sound (past_comma r) q in
      record {
        nexts = record { before = front_run is_blank r; behind = front_run is_blank (eat 44 (strip is_blank r)); number = n.number } ∷ m.nexts;
        close = m.close;
        enough = omega arith;
        text =
            past_comma_lem r (some_number (past_comma r) q)
            ∙ ap (λ (l : List ℕ). front is_blank r ++ (44 ∷ (front is_blank (eat 44 (strip is_blank r)) ++ l))) (n.text ∙ ap (number_text n.number) m.text);
        value = m.value ∙ (append_assoc s (x ∷ []) (map cap (nexts_value m.nexts)) ∙ ap (λ (y : ℕ). s ++ (y ∷ map cap (nexts_value m.nexts))) n.value);
      }

more-sound : (f : ℕ) (s r : List ℕ) → Some (more_numbers f s r).rest → MoreRead s r (more_numbers f s r).rest (more_numbers f s r).shape
unfolding more_numbers
more-sound zero s r h = no-some h
more-sound (suc f) s r h =
    decide (eqb (peek (strip is_blank r)) 44)
    (λ e.
    decide (eqb (peek (past_comma r)) 41)
    (λ d. let k = rw (e, d) at h in rw (e, d) (more-comma s r k))
    (λ d.
    let k = rw (e, d) at h in
    rw (e, d)
    (more-next s r (more-some f (s ++ (number_at (past_comma r) ∷ [])) (past_number (past_comma r)) k)
    (more-sound f (s ++ (number_at (past_comma r) ∷ [])) (past_number (past_comma r)) k))))
    (λ e. decide (leb 2 (length s)) (λ d. let k = rw (e, d) at h in rw (e, d) (more-bare s r (leb-true 2 (length s) d) k)) (λ d. no-some (rw (e, d) at h)))

-- the tuple t stands before u, and z are its numbers, 65 for all above
pub record TupleRead (r u z : List ℕ) : Type 0 where
  pub tuple : Tuple
  pub text : r ≡ tuple_text tuple u
  pub value : z ≡ map cap (tuple_value tuple)

-- the tuple of a first number and what follows it
tuple-made : (b : Run is_blank) (n : Number) (ns : List Next) (c : Close) {r u z : List ℕ} → Enough 1 ns c
    → r ≡ 40 ∷ (b.bytes ++ number_text n (nexts_text ns (close_text 41 c u)))
    → z ≡ cap (number_value n) ∷ map cap (nexts_value ns) → TupleRead r u z
unfolding Enough nexts_text tuple_text tuple_value nexts_value
tuple-made b n [] (bare a) e t v = absurd (omega (arith, e))
tuple-made b n [] (comma a c) e t v = record { tuple = one b n a c; text = t; value = v }
tuple-made b n (m ∷ ms) c e t v = record { tuple = several b n m ms c; text = t; value = v }

-- behind the bracket and its blanks
abbrev opened : List ℕ → List ℕ
opened r = strip is_blank (eat 40 r)

opened-is : (r : List ℕ) → Some (opened r) → r ≡ 40 ∷ (front is_blank (eat 40 r) ++ opened r)
opened-is r h = eat-sound 40 r (some-strip (eat 40 r) h) ∙ ap (λ (l : List ℕ). 40 ∷ l) (strip-sound is_blank (eat 40 r))

tuple-none : (r : List ℕ) → Some (eat 41 (opened r)) → TupleRead r (eat 41 (opened r)) []
unfolding tuple_text tuple_value
tuple-none r k =
    record {
      tuple = none (front_run is_blank (eat 40 r));
      text = opened-is r (eat-some 41 (opened r) k) ∙ ap (λ (l : List ℕ). 40 ∷ (front is_blank (eat 40 r) ++ l)) (eat-sound 41 (opened r) k);
      value = refl;
    }

tuple-some : (r : List ℕ) {u z : List ℕ} → Some (past_number (opened r)) → MoreRead (number_at (opened r) ∷ []) (past_number (opened r)) u z → TupleRead r u z
tuple-some r k m =
    let n = number-sound (opened r) k in
    tuple-made (front_run is_blank (eat 40 r)) n.number m.nexts m.close m.enough
    (opened-is r (some_number (opened r) k) ∙ ap (λ (l : List ℕ). 40 ∷ (front is_blank (eat 40 r) ++ l)) (n.text ∙ ap (number_text n.number) m.text))
    (m.value ∙ ap (λ (x : ℕ). x ∷ map cap (nexts_value m.nexts)) n.value)

pub tuple-sound : (f : ℕ) (r : List ℕ) → Some (read_tuple f r).rest → TupleRead r (read_tuple f r).rest (read_tuple f r).shape
unfolding inside_tuple
tuple-sound f r h =
    decide (eqb (peek (opened r)) 41)
    (λ e. let k = rw e at h in rw e (tuple-none r k))
    (λ e.
    let k = rw e at h in
    rw e
    (tuple-some r (more-some f (number_at (opened r) ∷ []) (past_number (opened r)) k) (more-sound f (number_at (opened r) ∷ []) (past_number (opened r)) k)))

pub tuple-some-rest : (f : ℕ) (r : List ℕ) → Some (read_tuple f r).rest → Some r
unfolding tuple_text
tuple-some-rest f r h = let t = tuple-sound f r h in go t.tuple t.text
  where
    go : (t : Tuple) → r ≡ tuple_text t (read_tuple f r).rest → Some r
    go (none b) e = omega (arith, ap length e)
    go (one a n b c) e = omega (arith, ap length e)
    go (several a n m ms c) e = omega (arith, ap length e)

-- ---- complete

no-blank : (b : ℕ) → 48 ≤ b → is_blank b ≡ true → ⊥
unfolding is_blank
no-blank b l h =
    false≢true
    (rw (
      ne_eqb b 32 (λ e. omega arith),
      ne_eqb b 9 (λ e. omega arith),
      ne_eqb b 10 (λ e. omega arith),
      ne_eqb b 12 (λ e. omega arith),
      ne_eqb b 13 (λ e. omega arith),
    ) at h)

-- no byte is a blank and a digit
blank-digit : (b : ℕ) → is_blank b ≡ true → is_digit b ≡ false
unfolding is_digit
blank-digit b h = decide (leb 48 b) (λ e. absurd (no-blank b (leb-true 48 b e) h)) (λ e. rw e)

digit-blank : (b : ℕ) → is_digit b ≡ true → is_blank b ≡ false
digit-blank b h = decide (is_blank b) (λ e. absurd (false≢true (sym (blank-digit b e) ∙ h))) (λ e. e)

digit_open : (b : ℕ) → is_digit b ≡ true → eqb b 41 ≡ false
unfolding is_digit
digit_open b h = ne_eqb b 41 (λ e. let l = leb-true 48 b (and_left (leb 48 b) (leb b 57) h) in omega arith)

-- blanks and a byte that is no digit end a number
run-ended : (c : ℕ) (u bs : List ℕ) → is_digit c ≡ false → all is_blank bs ≡ true → Ended (bs ++ (c ∷ u))
unfolding all
run-ended c u [] h e = h
run-ended c u (x ∷ bs) h e = blank-digit x (and_left (is_blank x) (all is_blank bs) e)

close-ended : (c : Close) (u : List ℕ) → Ended (close_text 41 c u)
unfolding close_text is_digit
close-ended (bare b) u = run-ended 41 u b.bytes refl b.only
close-ended (comma a b) u = run-ended 44 (b.bytes ++ (41 ∷ u)) a.bytes refl a.only

nexts-ended : (ns : List Next) (c : Close) (u : List ℕ) → Ended (nexts_text ns (close_text 41 c u))
unfolding nexts_text next_text is_digit
nexts-ended [] c u = close-ended c u
nexts-ended (n ∷ ns) c u = run-ended 44 (n.behind.bytes ++ number_text n.number (nexts_text ns (close_text 41 c u))) n.before.bytes refl n.before.only

-- blanks before a number
strip-number : (b : Run is_blank) (n : Number) (u : List ℕ) → strip is_blank (b.bytes ++ number_text n u) ≡ number_text n u
unfolding number_text is_blank
strip-number b nought u = strip-run is_blank b 48 u refl
strip-number b (counted d p q r) u = strip-run is_blank b d (r.bytes ++ u) (digit-blank d p)

number_open : (n : Number) (u : List ℕ) → eqb (peek (number_text n u)) 41 ≡ false
unfolding number_text
number_open nought u = refl
number_open (counted d p q r) u = digit_open d p

pub strip_byte : (b : Run is_blank) (c : ℕ) (u : List ℕ) → is_blank c ≡ false → strip is_blank (b.bytes ++ (c ∷ u)) ≡ c ∷ u
strip_byte b c u h = strip-run is_blank b c u h

pub comma_past_lem : (a b : Run is_blank) (u : List ℕ) → past_comma (a.bytes ++ (44 ∷ (b.bytes ++ u))) ≡ strip is_blank u
unfolding is_blank
comma_past_lem a b u =
    rw (strip-run is_blank a 44 (b.bytes ++ u) refl, eat-complete 44 (b.bytes ++ u)) (strip-complete is_blank b.bytes u b.only)

pub comma-peek : (a : Run is_blank) (u : List ℕ) → eqb (peek (strip is_blank (a.bytes ++ (44 ∷ u)))) 44 ≡ true
unfolding is_blank
comma-peek a u = rw (strip-run is_blank a 44 u refl)

enough-more : (k : ℕ) (n : Next) (ns : List Next) (c : Close) → 1 ≤ k → Enough (k + 1) ns c
unfolding Enough
enough-more k n [] (bare b) h = omega arith
enough-more k n [] (comma a b) h = omega arith
enough-more k n (m ∷ ns) c h = omega arith

blank_41 : is_blank 41 ≡ false
unfolding is_blank
blank_41 = refl

close-strip : (b : Run is_blank) (u : List ℕ) → strip is_blank (b.bytes ++ (41 ∷ u)) ≡ 41 ∷ u
close-strip b u = strip-run is_blank b 41 u blank_41

-- the number behind a comma
next_past : (n : Next) (u : List ℕ) → past_comma (next_text n u) ≡ number_text n.number u
unfolding next_text
next_past n u =
    let m = n.number in
    comma_past_lem n.before n.behind (number_text m u)
    ∙ (sym (strip-complete is_blank n.behind.bytes (number_text m u) n.behind.only) ∙ strip-number n.behind m u)

next-peek : (n : Next) (u : List ℕ) → eqb (peek (strip is_blank (next_text n u))) 44 ≡ true
unfolding next_text
next-peek n u = comma-peek n.before (n.behind.bytes ++ number_text n.number u)

more-complete : (ns : List Next) (c : Close) (f : ℕ) (s u : List ℕ) → length ns < f → 1 ≤ length s → Enough (length s) ns c
    → more_numbers f s (nexts_text ns (close_text 41 c u)) ≡ got u (s ++ map cap (nexts_value ns))
unfolding more_numbers nexts_text close_text nexts_value Enough
more-complete ns c zero s u l p e = absurd (omega arith)
more-complete [] (bare b) (suc f) s u l p e = rw (close-strip b u, le-leb 2 (length s) e, eat-complete 41 u, append-nil)
more-complete [] (comma a b) (suc f) s u l p e =
    rw (comma-peek a (b.bytes ++ (41 ∷ u)), comma_past_lem a b (41 ∷ u), strip-stop is_blank 41 u blank_41, eat-complete 41 u, append-nil)
more-complete (n ∷ ns) c (suc f) s u l p e =
    let v = nexts_text ns (close_text 41 c u) in
    let m = n.number in
    let x = cap (number_value m) in
    let d = nexts-ended ns c u in
    rw (next-peek n v, next_past n v, number_open m v, number_value_lem m v d, number_past m v d)
    (more-complete ns c f (s ++ (x ∷ [])) u (omega arith) (omega (arith, length_snoc s x)) (rw (length_snoc s x) (enough-more (length s) n ns c p))
    ∙ ap (got u) (append_assoc s (x ∷ []) (map cap (nexts_value ns))))

pub number-length : (n : Number) (u : List ℕ) → length u < length (number_text n u)
unfolding number_text
number-length nought u = omega arith
number-length (counted d p q r) u = omega (arith, length-append r.bytes u)

nexts-length : (ns : List Next) (u : List ℕ) → length ns ≤ length (nexts_text ns u)
unfolding nexts_text next_text
nexts-length [] u = omega arith
nexts-length (n ∷ ns) u =
    let a = nexts-length ns u in
    let v = number_text n.number (nexts_text ns u) in
    omega (
      arith,
      number-length n.number (nexts_text ns u),
      length-append n.before.bytes (44 ∷ (n.behind.bytes ++ v)),
      length-append n.behind.bytes v,
    )

-- a first number and what follows it
abbrev tuple_of : Run is_blank → Number → List Next → Close → List ℕ → List ℕ
tuple_of b n ns c u = 40 ∷ (b.bytes ++ number_text n (nexts_text ns (close_text 41 c u)))

first_read : (b : Run is_blank) (n : Number) (ns : List Next) (c : Close) (f : ℕ) (u : List ℕ) → length (tuple_of b n ns c u) ≤ f → Enough 1 ns c
    → read_tuple f (tuple_of b n ns c u) ≡ got u (cap (number_value n) ∷ map cap (nexts_value ns))
unfolding inside_tuple
first_read b n ns c f u h e =
    let v = nexts_text ns (close_text 41 c u) in
    let d = nexts-ended ns c u in
    let l : length ns < f = omega (arith, h, nexts-length ns (close_text 41 c u), number-length n v, length-append b.bytes (number_text n v)) in
    rw (eat-complete 40 (b.bytes ++ number_text n v), strip-number b n v, number_open n v, number_value_lem n v d, number_past n v d)
    (more-complete ns c f (cap (number_value n) ∷ []) u l (omega arith) e)

pub tuple-complete : (t : Tuple) (f : ℕ) (u : List ℕ) → length (tuple_text t u) ≤ f → read_tuple f (tuple_text t u) ≡ got u (map cap (tuple_value t))
unfolding inside_tuple tuple_text tuple_value nexts_value nexts_text Enough
tuple-complete (none b) f u h = rw (eat-complete 40 (b.bytes ++ (41 ∷ u)), close-strip b u, eat-complete 41 u)
tuple-complete (one a n b c) f u h = first_read a n [] (comma b c) f u h (omega arith)
tuple-complete (several a n m ms c) f u h = first_read a n (m ∷ ms) c f u h (omega arith)
