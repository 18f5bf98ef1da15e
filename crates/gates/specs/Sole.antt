-- Laws of the gates of one variable: what follows where they let a call pass, and which floats are totals.
use Rattle.std.specs.Prelude.{ℕ, ◌<◌, Bool, true, false, ◌&&◌, ◌≡◌, refl, ltb, eqb, Float}
use Rattle.std.proofs.Common.{sym, ap, ◌∙◌, ltb-true, eqb-true}
use Rattle.std.specs.Float.{nan, inf, fin, binary64}
use Rattle.std.specs.Float.Ieee.{lt, of_bits}
use Rattle.lists.specs.Test.{and_left, and_right}
use Rattle.model.specs.declared.Refusal.{Refusal}
use Rattle.model.specs.Header.{limit}
use Rattle.model.specs.Word.{header_of, good_word}
use Rattle.model.specs.Refusals.{ask_for, ask, no_refusal, zero_f}
use Rattle.model.specs.Gates.{bad_word, ask_word, full, sole_gate, good_total, tail_gate}
use Rattle.gates.specs.Gate.{word-passed, ReadReady, read_facts}

-- tests 1, 2 and 3, which stand before whatever comes next
stop-three : (a b c : Bool) (q next : Refusal) {r : Refusal} → r ≡ ask_for a q (ask b 2 (ask c 3 no_refusal))
    → (r.number ≡ 0 → ⊥) → r ≡ ask_for a q (ask b 2 (ask c 3 next))
stop-three true true true q next e n = absurd (n (ap (λ (x : Refusal). x.number) e))
stop-three true true false q next e n = e
stop-three true false c q next e n = e
stop-three false b c q next e n = e

on-three : (w : ℕ) (b c : Bool) (next : Refusal) {r : Refusal} → r ≡ ask_word w (ask b 2 (ask c 3 no_refusal)) → r.number ≡ 0
    → next ≡ ask_word w (ask b 2 (ask c 3 next))
on-three w b c next e z =
    let p = word-passed w b c true true true (ap (λ (x : Refusal). x.number) (sym e) ∙ z) in
    simp (p.t1, p.t2, p.t3)

module _ (w m : ℕ) (next : Refusal) {r : Refusal} (e : r ≡ sole_gate w m) where
  pub sole-stop : (r.number ≡ 0 → ⊥) → r ≡ ask_word w (ask (full w m) 2 (ask (eqb (header_of w).vars 1) 3 next))
  unfolding sole_gate
  sole-stop n = stop-three (good_word w) (full w m) (eqb (header_of w).vars 1) (bad_word w 64) next e n

  pub sole_on : r.number ≡ 0 → next ≡ ask_word w (ask (full w m) 2 (ask (eqb (header_of w).vars 1) 3 next))
  unfolding sole_gate
  sole_on z = on-three w (full w m) (eqb (header_of w).vars 1) next e z

pub record SoleReady (w m : ℕ) : Type 0 where
  pub read : ReadReady w m
  pub one : (header_of w).vars ≡ 1

pub sole-ready : (w m : ℕ) → (sole_gate w m).number ≡ 0 → SoleReady w m
unfolding sole_gate
sole-ready w m e =
    let p = word-passed w (full w m) (eqb (header_of w).vars 1) true true true e in
    record { read = read_facts w m p.t1 p.t2; one = eqb-true _ _ p.t3 }

-- ---- a tail

-- two tests by one number are one
ask-both : (a b : Bool) (k : ℕ) (r : Refusal) → ask a k (ask b k r) ≡ ask (a && b) k r
ask-both true b k r = refl
ask-both false b k r = refl

pub record TailReady (w m k : ℕ) (total : Float) : Type 0 where
  pub sole : SoleReady w m
  pub below : k < limit (header_of w) 0
  pub part : good_total total ≡ true

pub tail-ready : (w m k : ℕ) (total : Float) → (tail_gate w m k total).number ≡ 0 → TailReady w m k total
unfolding tail_gate
tail-ready w m k total e =
    let b : Bool = ltb k (limit (header_of w) 0) in
    let p = word-passed w (full w m) (eqb (header_of w).vars 1) (b && good_total total) true true (rw (ask-both b (good_total total) 4 no_refusal) at e) in
    record {
      sole = record { read = read_facts w m p.t1 p.t2; one = eqb-true _ _ p.t3 };
      below = ltb-true _ _ (and_left b (good_total total) p.t4);
      part = and_right b (good_total total) p.t4;
    }

-- what is above zero and below an infinity
and-swap : (a : Bool) → (a && true) ≡ (true && a)
and-swap true = refl
and-swap false = refl

pub total-is : (x : Float) → (lt zero_f x && lt x (of_bits binary64 0x7ff0000000000000)) ≡ good_total x
unfolding good_total lt of_bits
total-is nan = refl
total-is (inf true) = refl
total-is (inf false) = refl
total-is (fin s m e) = and-swap (lt zero_f (fin s m e))
