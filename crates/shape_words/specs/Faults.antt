-- The fault told of a header word is the first of its reasons in document 02's order (W5), and there is one exactly
-- where the word is no header.
use Rattle.std.specs.Prelude.{ℕ, suc, ◌%◌, ◌^◌, ◌≤◌, ◌<◌, Bool, true, false, ◌&&◌, List, [], ◌∷◌, ◌≡◌, leb, ltb, eqb, get_or}
use Rattle.std.proofs.Math.Path.{refl}
use Rattle.std.proofs.Common.{sym, ap, ◌∙◌, arith, le_antisymm}
use borrow.Author.Tests.{ltb-true, ltb-false, lt-ltb, le-ltb, leb-true, leb-false, lt-leb, eqb-true, eqb-false, ne_eqb}
use Rattle.lists.specs.Test.{decide}
use Rattle.lists.specs.Four.{each}
use Rattle.model.specs.declared.Header.{Header}
use Rattle.model.specs.declared.Fault.{Fault}
use Rattle.model.specs.Cap.{most_cap}
use Rattle.model.specs.Header.{limit, len, stored}
use Rattle.model.specs.Faults.{fault, no_fault, unless, sound_var, var_fault, sound_end, header_fault}
use Rattle.model.specs.Word.{header_of, fault_of, good_word}
use Rattle.model.specs.Causes.{HeaderReason, many_variables, long, missing_limit, missing_length, spare_bits, large_cap, large_count}
use Rattle.model.specs.Causes.{cause_turn, FirstHeaderReason}
use Rattle.shape_words.specs.Lengths.{Lengths}
use Rattle.shape_words.specs.Sound.{word_sound, Fields, fields}

pub not-both : (b : Bool) → b ≡ true → b ≡ false → ⊥
not-both true e f = let z : ◌≡◌ {A = ℕ} 0 1 = cc in omega (arith, z)
not-both false e f = let z : ◌≡◌ {A = ℕ} 0 1 = cc in omega (arith, z)

module _ (w : ℕ) where
  abbrev h : Header
  h = header_of w

  -- the tests by their turns, and what each tells
  abbrev tests : List Bool
  tests =
      leb h.vars 4
      ∷ sound_var h 0 ∷ sound_var h 1 ∷ sound_var h 2 ∷ sound_var h 3
      ∷ sound_end h (w % 2 ^ 5) ∷ leb (stored h) 4096 ∷ []

  abbrev faults : List Fault
  faults = fault 4 1 ∷ var_fault h 0 ∷ var_fault h 1 ∷ var_fault h 2 ∷ var_fault h 3 ∷ fault 4 4 ∷ fault 4 5 ∷ []

  abbrev holds : ℕ → Bool
  holds j = get_or tests j true

  abbrev told : ℕ → Fault
  told j = get_or faults j no_fault

  -- ---- a reason fails the test of its turn, which tells it

  long-fails : (k : ℕ) → k < h.vars → limit h k < len h k → sound_var h k ≡ false
  unfolding sound_var
  long-fails k v l = simp (lt-ltb _ _ v, lt-leb _ _ l)

  and_no : (a : Bool) → (a && false) ≡ false
  and_no true = refl
  and_no false = refl

  limit-fails : (k : ℕ) → h.vars ≤ k → 1 < limit h k → sound_var h k ≡ false
  unfolding sound_var
  limit-fails k v l = simp (le-ltb _ _ v, ne_eqb (limit h k) 1 (λ e. omega (arith, e)))

  length-fails : (k : ℕ) → h.vars ≤ k → 1 < len h k → sound_var h k ≡ false
  unfolding sound_var
  length-fails k v l = simp (le-ltb _ _ v, ne_eqb (len h k) 1 (λ e. omega (arith, e)), and_no (eqb (limit h k) 1))

  at-variable : (k : ℕ) → k < 4 → holds (suc k) ≡ sound_var h k
  at-variable = each (λ k. holds (suc k) ≡ sound_var h k) refl refl refl refl

  of-variable : (k : ℕ) → k < 4 → told (suc k) ≡ var_fault h k
  of-variable = each (λ k. told (suc k) ≡ var_fault h k) refl refl refl refl

  reason-fails : {v c : ℕ} → HeaderReason w v c → holds (cause_turn v c) ≡ false
  reason-fails (many_variables l) = lt-leb _ _ l
  reason-fails (long k m v l) = at-variable k m ∙ long-fails k v l
  reason-fails (missing_limit k m v l) = at-variable k m ∙ limit-fails k v l
  reason-fails (missing_length k m v l) = at-variable k m ∙ length-fails k v l
  reason-fails (spare_bits l) = simp (ne_eqb (w % 2 ^ 5) 0 (λ e. omega (arith, e)))
  reason-fails (large_cap l) = simp (lt-leb _ _ l, and_no (eqb (w % 2 ^ 5) 0))
  reason-fails (large_count l) = lt-leb _ _ l

  reason-told : {v c : ℕ} → HeaderReason w v c → told (cause_turn v c) ≡ fault v c
  reason-told (many_variables l) = refl
  reason-told (long k m v l) = of-variable k m ∙ rw (lt-ltb _ _ v)
  reason-told (missing_limit k m v l) = of-variable k m ∙ rw (le-ltb _ _ v)
  reason-told (missing_length k m v l) = of-variable k m ∙ rw (le-ltb _ _ v)
  reason-told (spare_bits l) = refl
  reason-told (large_cap l) = refl
  reason-told (large_count l) = refl

  -- ---- the tests in order

  -- the first n hold
  abbrev Holds : ℕ → Type 0
  Holds n = (j : ℕ) → j < n → holds j ≡ true

  none_yet : Holds 0
  none_yet j l = absurd (omega arith)

  more : {n : ℕ} → Holds n → holds n ≡ true → Holds (suc n)
  more {n} p e j l = decide (eqb j n) (λ t. rw (eqb-true j n t) e) (λ t. p j (below j n (eqb-false j n t) l))
    where
      below : (j n : ℕ) → (j ≡ n → ⊥) → j < suc n → j < n
      below j n d l = decide (ltb j n) (λ t. ltb-true j n t) (λ t. absurd (d (omega (arith, ltb-false j n t))))

  late : {n v c : ℕ} → Holds n → HeaderReason w v c → n ≤ cause_turn v c
  late {n} {v} {c} p x =
      decide (leb n (cause_turn v c))
      (λ t. leb-true _ _ t)
      (λ t. absurd (not-both _ (p (cause_turn v c) (leb-false _ _ t)) (reason-fails x)))

  -- a variable that is not sound has a reason
  var-reason : (k : ℕ) → k < 4 → sound_var h k ≡ false → HeaderReason w k (var_fault h k).cause
  unfolding sound_var
  var-reason k m e =
      let f : Fields h k = fields w k m in
      decide (ltb k h.vars)
      (λ t. rw t (long k m (ltb-true _ _ t) (leb-false _ _ (rw t at e))))
      (λ t. rw t
      (decide (eqb (limit h k) 1)
      (λ a. missing_length k m (ltb-false _ _ t) (omega (arith, above (len h k) (eqb-false _ _ (rw (t, a) at e)) f.length_pos)))
      (λ a. missing_limit k m (ltb-false _ _ t) (omega (arith, above (limit h k) (eqb-false _ _ a) f.limit_pos)))))
    where
      above : (n : ℕ) → (n ≡ 1 → ⊥) → 1 ≤ n → 1 < n
      above n d l = decide (leb n 1) (λ t. absurd (d (omega (arith, leb-true n 1 t)))) (λ t. leb-false n 1 t)

  var-first : (k : ℕ) → k < 4 → Holds (suc k) → sound_var h k ≡ false → FirstHeaderReason w k (var_fault h k).cause
  var-first k m p e =
      record {
        reason = var-reason k m e;
        first = λ u d x. decide (ltb k h.vars) (λ t. rw t (late p x)) (λ t. rw t (late p x));
      }

  -- ---- the fault, by the tests

  data View : Fault → Type 0 where
    sound : View no_fault
    wrong : (v c : ℕ) → FirstHeaderReason w v c → View (fault v c)

  positive : (n : ℕ) → (n ≡ 0 → ⊥) → 0 < n
  positive n d = decide (ltb 0 n) (λ t. ltb-true 0 n t) (λ t. absurd (d (omega (arith, ltb-false 0 n t))))

  -- an end that is not sound has a reason
  end-reason : sound_end h (w % 2 ^ 5) ≡ false → HeaderReason w 4 4
  end-reason e =
      decide (eqb (w % 2 ^ 5) 0)
      (λ t. large_cap (leb-false _ _ (rw t at e)))
      (λ t. spare_bits (positive _ (eqb-false _ _ t)))

  by_tests : (t1 u0 u1 u2 u3 t4 t5 : Bool) → leb h.vars 4 ≡ t1
      → sound_var h 0 ≡ u0 → sound_var h 1 ≡ u1 → sound_var h 2 ≡ u2 → sound_var h 3 ≡ u3
      → sound_end h (w % 2 ^ 5) ≡ t4 → leb (stored h) 4096 ≡ t5
      → View (unless t1 (fault 4 1) (unless u0 (var_fault h 0) (unless u1 (var_fault h 1) (unless u2 (var_fault h 2) (unless u3 (var_fault h 3)
      (unless t4 (fault 4 4) (unless t5 (fault 4 5) no_fault)))))))
  by_tests false u0 u1 u2 u3 t4 t5 a b c d e f g =
      wrong 4 1 (record { reason = many_variables (leb-false _ _ a); first = λ u d x. omega arith })
  by_tests true false u1 u2 u3 t4 t5 a b c d e f g = wrong 0 _ (var-first 0 (omega arith) (more none_yet a) b)
  by_tests true true false u2 u3 t4 t5 a b c d e f g = wrong 1 _ (var-first 1 (omega arith) (more (more none_yet a) b) c)
  by_tests true true true false u3 t4 t5 a b c d e f g = wrong 2 _ (var-first 2 (omega arith) (more (more (more none_yet a) b) c) d)
  by_tests true true true true false t4 t5 a b c d e f g = wrong 3 _ (var-first 3 (omega arith) (more (more (more (more none_yet a) b) c) d) e)
  by_tests true true true true true false t5 a b c d e f g =
      let p : Holds 5 = more (more (more (more (more none_yet a) b) c) d) e in
      wrong 4 4 (record { reason = end-reason f; first = λ u d x. late p x })
  by_tests true true true true true true false a b c d e f g =
      let p : Holds 6 = more (more (more (more (more (more none_yet a) b) c) d) e) f in
      wrong 4 5 (record { reason = large_count (leb-false _ _ g); first = λ u d x. late p x })
  by_tests true true true true true true true a b c d e f g = sound

  view : View (fault_of w)
  unfolding fault_of header_fault
  view = by_tests _ _ _ _ _ _ _ refl refl refl refl refl refl refl

  first_by : {f : Fault} → View f → (f.cause ≡ 0 → ⊥) → FirstHeaderReason w f.variable f.cause
  first_by sound n = absurd (n refl)
  first_by (wrong v c x) n = x

  -- ---- the law

  end-sound : eqb (w % 2 ^ 5) 0 ≡ true → leb h.cap most_cap ≡ true → sound_end h (w % 2 ^ 5) ≡ true
  end-sound e l = simp (e, l)

  -- a header has no reason
  pub good_none : good_word w ≡ true → {v c : ℕ} → HeaderReason w v c → ⊥
  good_none e x =
      let s = word_sound w e in
      let p : Holds 5 = more (more (more (more (more none_yet s.few) s.v0) s.v1) s.v2) s.v3 in
      let p : Holds 7 = more (more p (end-sound s.spare s.low)) s.most in
      turn_small x (late p x)
    where
      turn_small : {v c : ℕ} → HeaderReason w v c → 7 ≤ cause_turn v c → ⊥
      turn_small (many_variables l) m = omega arith
      turn_small (long k n v l) m = omega arith
      turn_small (missing_limit k n v l) m = omega arith
      turn_small (missing_length k n v l) m = omega arith
      turn_small (spare_bits l) m = omega arith
      turn_small (large_cap l) m = omega arith
      turn_small (large_count l) m = omega arith

  -- another word has a first one, which is its fault
  pub bad-first : good_word w ≡ false → FirstHeaderReason w (fault_of w).variable (fault_of w).cause
  unfolding good_word
  bad-first e = first_by view (eqb-false (fault_of w).cause 0 e)

  -- and no other
  pub first_one : {v c u d : ℕ} → FirstHeaderReason w v c → FirstHeaderReason w u d → (v ≡ u) × (c ≡ d)
  first_one {v} {c} {u} {d} a b =
      let t : cause_turn v c ≡ cause_turn u d = le_antisymm (a.first u d b.reason) (b.first v c a.reason) in
      let e : fault v c ≡ fault u d = sym (reason-told a.reason) ∙ (ap told t ∙ reason-told b.reason) in
      (ap (λ (f : Fault). f.variable) e, ap (λ (f : Fault). f.cause) e)

  pub record FaultExact : Type 0 where
    -- no fault where there is no reason, and only there
    pub none : ((v c : ℕ) → HeaderReason w v c → ⊥) → good_word w ≡ true
    pub sound : good_word w ≡ true → (v c : ℕ) → HeaderReason w v c → ⊥
    -- else the first, and only that
    pub first : (v c : ℕ) → FirstHeaderReason w v c → fault_of w ≡ fault v c
    pub told : good_word w ≡ false → FirstHeaderReason w (fault_of w).variable (fault_of w).cause

  pub fault-exact : FaultExact
  fault-exact =
      record {
        none = λ n. decide (good_word w) (λ t. t) (λ t. absurd (n _ _ (bad-first t).reason));
        sound = λ e v c x. good_none e x;
        first = λ v c x.
            decide (good_word w)
            (λ t. absurd (good_none t x.reason))
            (λ t. let e = first_one (bad-first t) x in λ i. record { variable = e.0 i; cause = e.1 i });
        told = bad-first;
      }

-- the lengths that a word says are 1 to 64, good or not
pub word-lengths : (w : ℕ) → Lengths (header_of w).lengths
word-lengths w =
    let f : (k : ℕ) → k < 4 → Fields (header_of w) k = fields w in
    record {
      p0 = (f 0 (omega arith)).length_pos;
      p1 = (f 1 (omega arith)).length_pos;
      p2 = (f 2 (omega arith)).length_pos;
      p3 = (f 3 (omega arith)).length_pos;
      m0 = (f 0 (omega arith)).length_most;
      m1 = (f 1 (omega arith)).length_most;
      m2 = (f 2 (omega arith)).length_most;
      m3 = (f 3 (omega arith)).length_most;
    }

-- ---- numbers that a fault has

pub record SmallFault (f : Fault) : Type 0 where
  pub variable : f.variable ≤ 4
  pub cause : f.cause ≤ 6

pub fault-small : (b : Bool) {f next : Fault} → SmallFault f → SmallFault next → SmallFault (unless b f next)
fault-small true s t = t
fault-small false s t = s

pub none-small : SmallFault no_fault
none-small = record { variable = omega arith; cause = omega arith }

var-small : (h : Header) (k : ℕ) → k < 4 → SmallFault (var_fault h k)
var-small h k l =
    record { variable = omega arith; cause = decide (ltb k h.vars) (λ t. rw t (omega arith)) (λ t. rw t (omega arith)) }

pub word-fault-small : (w : ℕ) → SmallFault (fault_of w)
unfolding fault_of header_fault
word-fault-small w =
    let h : Header = header_of w in
    fault-small (leb h.vars 4) (record { variable = omega arith; cause = omega arith })
    (fault-small (sound_var h 0) (var-small h 0 (omega arith))
    (fault-small (sound_var h 1) (var-small h 1 (omega arith))
    (fault-small (sound_var h 2) (var-small h 2 (omega arith))
    (fault-small (sound_var h 3) (var-small h 3 (omega arith))
    (fault-small (sound_end h (w % 2 ^ 5)) (record { variable = omega arith; cause = omega arith })
    (fault-small (leb (stored h) 4096) (record { variable = omega arith; cause = omega arith }) none-small))))))
