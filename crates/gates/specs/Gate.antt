-- Laws of gates: what follows from a gate that lets a call pass, and what a refusal leaves.
use Rattle.std.specs.Prelude.{Ok, Err, ℕ, ◌-◌, ◌*◌, ◌≤◌, ◌<◌, List, ◌++◌, Bool, true, false, ◌&&◌, cond, ◌≡◌, refl, leb, ltb, length, drop, Float}
use Rattle.std.proofs.Common.{append-nil, sym, ap, ◌∙◌, arith, leb-true, ltb-true, eq-eqb, ne_eqb}
use Rattle.lists.specs.Test.{and_left, and_right}
use Rattle.lists.specs.Table.{table}
use Rattle.model.specs.declared.Header.{Header}
use Rattle.model.specs.declared.Refusal.{Refusal}
use Rattle.model.specs.Results.{Answer}
use Rattle.model.specs.declared.Linear.{Linear}
use Rattle.model.specs.declared.Family.{Family}
use Rattle.model.specs.Header.{limit, stored, zero_with, var_with}
use Rattle.model.specs.Places.{inside}
use Rattle.model.specs.Word.{header_of, good_word, word_of}
use Rattle.model.specs.Refusals.{ask_for, ask, no_refusal, refused_by, refused_for, fits, roomy, answer_by, read_by, linear_by, leaves, written}
use Rattle.model.specs.Poly.{Poly}
use Rattle.model.specs.Answers.{answered, out_after}
use Rattle.model.specs.Gates.{bad_word, ask_word, full, read_gate, no_missing, index_gate, one_gate, work_gate, in_gate, pair_gate}
use Rattle.model.specs.Faults.{fault, good_limit, limits_fault}
use Rattle.model.specs.Gates.{good_limits, ask_limits, with_gate, var_with_gate, var_header, var_gate, announced_one}
use Rattle.model.specs.Gates.{announced_pair}
use Rattle.shape_words.specs.Rules.{Good, Regular, Ruled, none-regular}
use Rattle.shape_words.specs.Words.{good_word_lem}
use Rattle.shape_words.specs.Lengths.{Inside, inside_is}
use Rattle.gates.specs.Given.{good_limit_lem, good_limits_lem, given-same, zero-regular, var-regular}
use Rattle.shape.specs.Announced.{announced-regular}

-- Every gate is a chain of document 01's tests 1 to 6; one that it does not make counts as true.
pub record Passed (a b c d e f : Bool) : Type 0 where
  pub t1 : a ≡ true
  pub t2 : b ≡ true
  pub t3 : c ≡ true
  pub t4 : d ≡ true
  pub t5 : e ≡ true
  pub t6 : f ≡ true

ask-test : (b : Bool) (q r : Refusal) → (q.number ≡ 0 → ⊥) → (ask_for b q r).number ≡ 0 → b ≡ true
ask-test true q r n e = refl
ask-test false q r n e = absurd (n e)

ask-next : (b : Bool) (q r : Refusal) → (q.number ≡ 0 → ⊥) → (ask_for b q r).number ≡ 0 → r.number ≡ 0
ask-next true q r n e = e
ask-next false q r n e = absurd (n e)

-- a chain that ends in no refusal passed every test
module _ (a b c d e f : Bool) (q1 q2 q3 q4 q5 q6 : Refusal) (n1 : q1.number ≡ 0 → ⊥) (n2 : q2.number ≡ 0 → ⊥)
    (n3 : q3.number ≡ 0 → ⊥) (n4 : q4.number ≡ 0 → ⊥) (n5 : q5.number ≡ 0 → ⊥) (n6 : q6.number ≡ 0 → ⊥) where
  chain : (ask_for a q1 (ask_for b q2 (ask_for c q3 (ask_for d q4 (ask_for e q5 (ask_for f q6 no_refusal)))))).number ≡ 0 → Passed a b c d e f
  chain z1 =
      let r6 : Refusal = ask_for f q6 no_refusal in
      let r5 : Refusal = ask_for e q5 r6 in
      let r4 : Refusal = ask_for d q4 r5 in
      let r3 : Refusal = ask_for c q3 r4 in
      let r2 : Refusal = ask_for b q2 r3 in
      let z2 = ask-next a q1 r2 n1 z1 in
      let z3 = ask-next b q2 r3 n2 z2 in
      let z4 = ask-next c q3 r4 n3 z3 in
      let z5 = ask-next d q4 r5 n4 z4 in
      let z6 = ask-next e q5 r6 n5 z5 in
      record {
        t1 = ask-test a q1 r2 n1 z1;
        t2 = ask-test b q2 r3 n2 z2;
        t3 = ask-test c q3 r4 n3 z3;
        t4 = ask-test d q4 r5 n4 z4;
        t5 = ask-test e q5 r6 n5 z5;
        t6 = ask-test f q6 no_refusal n6 z6;
      }

-- the first refusal is any by 1
passed-by : (q : Refusal) → q.number ≡ 1 → (a b c d e f : Bool)
    → (ask_for a q (ask b 2 (ask c 3 (ask d 4 (ask e 5 (ask f 6 no_refusal)))))).number ≡ 0 → Passed a b c d e f
passed-by q h a b c d e f =
    chain a b c d e f q (refused_by 2) (refused_by 3) (refused_by 4) (refused_by 5) (refused_by 6) (λ z. omega arith)
    (λ z. omega (arith, z)) (λ z. omega (arith, z)) (λ z. omega (arith, z)) (λ z. omega (arith, z)) (λ z. omega (arith, z))

pub passed : (a b c d e f : Bool) → (ask a 1 (ask b 2 (ask c 3 (ask d 4 (ask e 5 (ask f 6 no_refusal)))))).number ≡ 0 → Passed a b c d e f
passed = passed-by (refused_by 1) refl

-- that of the limits given to a constructor, and of a header word
limits-passed : (vars : ℕ) (l : List ℕ) (b c d e f : Bool)
    → (ask_limits vars l (ask b 2 (ask c 3 (ask d 4 (ask e 5 (ask f 6 no_refusal)))))).number ≡ 0
    → Passed (good_limits vars l) b c d e f
limits-passed vars l = passed-by (refused_for (limits_fault vars l) 64) refl (good_limits vars l)

pub word-passed : (w : ℕ) (b c d e f : Bool) → (ask_word w (ask b 2 (ask c 3 (ask d 4 (ask e 5 (ask f 6 no_refusal)))))).number ≡ 0
    → Passed (good_word w) b c d e f
word-passed w = passed-by (bad_word w 64) refl (good_word w)

-- and of two, one after the other
pub words-passed : (w u : ℕ) (b c e f : Bool) → (ask_word w (ask_word u (ask b 2 (ask c 2 (ask e 5 (ask f 6 no_refusal)))))).number ≡ 0
    → Passed (good_word w) (good_word u) b c e f
words-passed w u b c e f =
    chain (good_word w) (good_word u) b c e f (bad_word w 64) (bad_word u 64) (refused_by 2) (refused_by 2) (refused_by 5)
    (refused_by 6) (λ z. omega (arith, z)) (λ z. omega (arith, z)) (λ z. omega (arith, z)) (λ z. omega (arith, z))
    (λ z. omega (arith, z)) (λ z. omega (arith, z))

-- two tests with one refusal
pub both_on : (a b : Bool) (q next : Refusal) → (a && b) ≡ true → next ≡ ask_for a q (ask_for b q next)
both_on a b q next e = rw (and_left a b e, and_right a b e)

pub both-stop : (a b : Bool) (q next : Refusal) → (a && b) ≡ false → q ≡ ask_for a q (ask_for b q next)
both-stop true true q next e = sym (ap (λ (x : Bool). cond x next q) e)
both-stop true false q next e = refl
both-stop false b q next e = refl

-- tests 1 and 2 of one operand, which stand before whatever comes next
begin-stop : (a b : Bool) (q next : Refusal) {r : Refusal} → r ≡ ask_for a q (ask b 2 no_refusal) → (r.number ≡ 0 → ⊥) → r ≡ ask_for a q (ask b 2 next)
begin-stop true true q next e n = absurd (n (ap (λ (x : Refusal). x.number) e))
begin-stop true false q next e n = e
begin-stop false b q next e n = e

begin_on : (w : ℕ) (b : Bool) (next : Refusal) {r : Refusal} → r ≡ ask_word w (ask b 2 no_refusal) → r.number ≡ 0 → next ≡ ask_word w (ask b 2 next)
begin_on w b next e z = let p = word-passed w b true true true true (ap (λ (x : Refusal). x.number) (sym e) ∙ z) in simp (p.t1, p.t2)

module _ (w m : ℕ) (next : Refusal) {r : Refusal} (e : r ≡ read_gate w m) where
  pub read-stop : (r.number ≡ 0 → ⊥) → r ≡ ask_word w (ask (full w m) 2 next)
  unfolding read_gate
  read-stop n = begin-stop (good_word w) (full w m) (bad_word w 64) next e n

  pub read_on : r.number ≡ 0 → next ≡ ask_word w (ask (full w m) 2 next)
  unfolding read_gate
  read_on z = begin_on w (full w m) next e z

-- answers and buffers, by whether the gate refused
module _ (r : Refusal) where
  pub answer_no : (w : ℕ) → (r.number ≡ 0 → ⊥) → Err r ≡ answer_by r w
  unfolding answer_by
  answer_no w n = simp (ne_eqb _ _ n)

  pub answer-yes : (w : ℕ) → r.number ≡ 0 → Ok w ≡ answer_by r w
  unfolding answer_by
  answer-yes w e = simp (eq-eqb _ _ e)

  pub leaves_no : (new old : List Float) → (r.number ≡ 0 → ⊥) → old ≡ leaves r new old
  unfolding leaves
  leaves_no new old n = simp (ne_eqb _ _ n)

  pub leaves-yes : (new old : List Float) → r.number ≡ 0 → new ≡ leaves r new old
  unfolding leaves
  leaves-yes new old e = simp (eq-eqb _ _ e)

-- the same of an entry: g its gate, as it answered
module _ {r g : Refusal} (e : r ≡ g) where
  module _ (n : r.number ≡ 0 → ⊥) where
    pub entry-refused : (h : Header) (p : Poly) (old : List Float) → (Err r ≡ answered g p) × (old ≡ out_after g h p old)
    entry-refused h p old = (rw (← e) (answer_no r _ n), rw (← e) (leaves_no r _ old n))

    pub read-refused : (x : Float) → Err r ≡ read_by g x
    unfolding read_by
    read-refused x = rw (← e) (simp (ne_eqb _ _ n))

    pub line_refused : (x : Linear) → Err r ≡ linear_by g x
    unfolding linear_by
    line_refused x = rw (← e) (simp (ne_eqb _ _ n))

  module _ (z : r.number ≡ 0) where
    pub entry_done : (h : Header) (p : Poly) (old : List Float) {a : Answer} {new : List Float}
        → a ≡ Ok (word_of p.head) → new ≡ written (stored h) p.coeffs old
        → (a ≡ answered g p) × (new ≡ out_after g h p old)
    entry_done h p old k l = (rw (← e) (k ∙ answer-yes r _ z), rw (← e) (l ∙ leaves-yes r _ old z))

    pub read_done : {x y : Float} → x ≡ y → Ok x ≡ read_by g y
    unfolding read_by
    read_done k = rw (← e, k) (simp (eq-eqb _ _ z))

    pub line-done : {x y : Linear} → x ≡ y → Ok x ≡ linear_by g y
    unfolding linear_by
    line-done k = rw (← e, k) (simp (eq-eqb _ _ z))

-- an answer that fills every announced place
pub written-full : (n : ℕ) (xs old : List Float) → length xs ≡ n → xs ++ drop n old ≡ written n xs old
unfolding written table
written-full n xs old e =
    let z : n - length xs ≡ 0 = omega arith in
    ap (λ (l : List Float). l ++ drop n old) (sym (append-nil xs)) ∙ rw z

-- test 5
pub fits-good : {h : Header} (n : ℕ) → Regular h → fits h n ≡ true → Good h
fits-good {h} n r t = record { regular = r; most = leb-true _ _ (and_left (leb (stored h) 4096) (leb (stored h) n) t) }

pub fits-room : (h : Header) (n : ℕ) → fits h n ≡ true → stored h ≤ n
fits-room h n t = leb-true _ _ (and_right (leb (stored h) 4096) (leb (stored h) n) t)

-- The facts that each gate has tested, where it lets a call pass.

-- one operand to read
pub record ReadReady (w m : ℕ) : Type 0 where
  pub word : good_word w ≡ true
  pub good : Good (header_of w)
  pub full : stored (header_of w) ≤ m

pub read_facts : (w m : ℕ) → good_word w ≡ true → full w m ≡ true → ReadReady w m
read_facts w m s t = record { word = s; good = good_word_lem w s; full = leb-true _ _ t }

pub read-ready : (w m : ℕ) → (read_gate w m).number ≡ 0 → ReadReady w m
unfolding read_gate
read-ready w m e = let p = word-passed w (full w m) true true true true e in read_facts w m p.t1 p.t2

-- an index
pub record IndexReady (w m : ℕ) (i : List ℕ) : Type 0 where
  pub read : ReadReady w m
  pub known : no_missing (header_of w) i ≡ true
  pub below : Inside (header_of w).limits i

pub index-ready : (w m : ℕ) (i : List ℕ) → (index_gate w m i).number ≡ 0 → IndexReady w m i
unfolding index_gate
index-ready w m i e =
    let p = word-passed w (full w m) (no_missing (header_of w) i) (inside (header_of w).limits i) true true e in
    record { read = read_facts w m p.t1 p.t2; known = p.t3; below = inside_is _ i p.t4 }

-- one operand, and places for the result
pub record OneReady (f : Family) (w m n : ℕ) : Type 0 where
  pub word : good_word w ≡ true
  pub good : Good (header_of w)
  pub full : stored (header_of w) ≤ m
  pub announced : Good (announced_one f w)
  pub room : stored (announced_one f w) ≤ n

pub one-announced : (f : Family) (w : ℕ) → good_word w ≡ true → Regular (announced_one f w)
one-announced f w t = announced-regular f (good_word_lem w t).regular none-regular

one_facts : (f : Family) (w m n : ℕ) → good_word w ≡ true → full w m ≡ true → fits (announced_one f w) n ≡ true → OneReady f w m n
one_facts f w m n s t u =
    record {
      word = s;
      good = good_word_lem w s;
      full = leb-true _ _ t;
      announced = fits-good n (one-announced f w s) u;
      room = fits-room
          (announced_one f w) n u;
    }

pub one-ready : (f : Family) (w m n : ℕ) → (one_gate f w m n).number ≡ 0 → OneReady f w m n
unfolding one_gate
one-ready f w m n e =
    let p = word-passed w (full w m) true true (fits (announced_one f w) n) true e in
    one_facts f w m n p.t1 p.t2 p.t5

-- and scratch
pub record WorkReady (f : Family) (w m n s : ℕ) : Type 0 where
  pub one : OneReady f w m n
  pub spare : 8 * stored (announced_one f w) ≤ s

pub work-ready : (f : Family) (w m n s : ℕ) → (work_gate f w m n s).number ≡ 0 → WorkReady f w m n s
unfolding work_gate
work-ready f w m n s e =
    let p = word-passed w (full w m) true true (fits (announced_one f w) n) (roomy (announced_one f w) s) e in
    record { one = one_facts f w m n p.t1 p.t2 p.t5; spare = leb-true _ _ p.t6 }

-- and a variable with a number below its limit
pub record InReady (f : Family) (v d w m n : ℕ) : Type 0 where
  pub one : OneReady f w m n
  pub known : v < (header_of w).vars
  pub below : d < limit (header_of w) v

pub in-ready : (f : Family) (v d w m n : ℕ) → (in_gate f v d w m n).number ≡ 0 → InReady f v d w m n
unfolding in_gate
in-ready f v d w m n e =
    let p = word-passed w (full w m) (ltb v (header_of w).vars) (ltb d (limit (header_of w) v)) (fits (announced_one f w) n) true e in
    record { one = one_facts f w m n p.t1 p.t2 p.t5; known = ltb-true _ _ p.t3; below = ltb-true _ _ p.t4 }

-- two operands, and scratch
pub record PairReady (f : Family) (w m u l n s : ℕ) : Type 0 where
  pub word_a : good_word w ≡ true
  pub word_b : good_word u ≡ true
  pub good_a : Good (header_of w)
  pub good_b : Good (header_of u)
  pub full_a : stored (header_of w) ≤ m
  pub full_b : stored (header_of u) ≤ l
  pub announced : Good (announced_pair f w u)
  pub room : stored (announced_pair f w u) ≤ n
  pub spare : 8 * stored (announced_pair f w u) ≤ s

pub pair-announced : (f : Family) (w u : ℕ) → good_word w ≡ true → good_word u ≡ true → Regular (announced_pair f w u)
pair-announced f w u s t = announced-regular f (good_word_lem w s).regular (good_word_lem u t).regular

pub pair-ready : (f : Family) (w m u l n s : ℕ) → (pair_gate f w m u l n s).number ≡ 0 → PairReady f w m u l n s
unfolding pair_gate
pair-ready f w m u l n s e =
    let h : Header = announced_pair f w u in
    let p = words-passed w u (full w m) (full u l) (fits h n) (roomy h s) e in
    record {
      word_a = p.t1;
      word_b = p.t2;
      good_a = good_word_lem w p.t1;
      good_b = good_word_lem u p.t2;
      full_a = leb-true _ _ p.t3;
      full_b = leb-true _ _ p.t4;
      announced = fits-good n (pair-announced f w u p.t1 p.t2) p.t5;
      room = fits-room h n p.t5;
      spare = leb-true _ _ p.t6;
    }

-- a constructor's header, and places for its coefficients
pub record HeaderReady (h : Header) (n : ℕ) : Type 0 where
  pub good : Good h
  pub room : stored h ≤ n

header-ready : {h : Header} (n : ℕ) → Regular h → fits h n ≡ true → HeaderReady h n
header-ready {h} n r t = record { good = fits-good n r t; room = fits-room h n t }

pub with-ready : (vars : ℕ) (l : List ℕ) (n : ℕ) → (with_gate vars l n).number ≡ 0 → HeaderReady (zero_with vars l) n
unfolding with_gate
with-ready vars l n e =
    let p = limits-passed vars l true true true (fits (zero_with vars l) n) true e in
    header-ready n (zero-regular (good_limits_lem vars l p.t1)) p.t5

pub record VarWithReady (v vars : ℕ) (l : List ℕ) (n : ℕ) : Type 0 where
  pub header : HeaderReady (var_with v vars l) n
  pub known : v < vars

pub var_with-ready : (v vars : ℕ) (l : List ℕ) (n : ℕ) → (var_with_gate v vars l n).number ≡ 0 → VarWithReady v vars l n
unfolding var_with_gate
var_with-ready v vars l n e =
    let p = limits-passed vars l true (ltb v vars) true (fits (var_with v vars l) n) true e in
    record { header = header-ready n (var-regular (good_limits_lem vars l p.t1) v) p.t5; known = ltb-true _ _ p.t3 }

pub record VarReady (v l n : ℕ) : Type 0 where
  pub header : HeaderReady (var_header v l) n
  pub known : v ≤ 3

pub var-ready : (v l n : ℕ) → (var_gate v l n).number ≡ 0 → VarReady v l n
unfolding var_gate
var-ready v l n e =
    let p = passed-by (refused_for (fault 0 6) 64) refl (good_limit l) true (leb v 3) true (fits (var_header v l) n) true e in
    let k = leb-true _ _ p.t3 in
    record { header = header-ready n (var-regular (given-same k (good_limit_lem l p.t1)) v) p.t5; known = k }

-- What stands of the headers where the first tests hold.
pub word-good : (w : ℕ) → (ask_word w no_refusal).number ≡ 0 → good_word w ≡ true
word-good w z = (word-passed w true true true true true z).t1

pub word-ruled : {h : Header} (w : ℕ) → (ask_word w no_refusal).number ≡ 0 → h ≡ header_of w → Ruled h
word-ruled w z e = rw e (good_word_lem w (word-good w z)).regular.rules

pub limits-good : (vars : ℕ) (l : List ℕ) → (ask_limits vars l no_refusal).number ≡ 0 → good_limits vars l ≡ true
limits-good vars l z = (limits-passed vars l true true true true true z).t1

pub words-good : (w u : ℕ) (b c : Bool) → (ask_word w (ask_word u (ask b 2 (ask c 2 no_refusal)))).number ≡ 0 → (good_word w ≡ true) × (good_word u ≡ true)
words-good w u b c z = let p = words-passed w u b c true true z in (p.t1, p.t2)
