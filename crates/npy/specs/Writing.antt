-- The outcomes of writing, from what the code found.
use Rattle.std.specs.Prelude.{Ok, Err, ℕ, suc, ◌+◌, ◌*◌, ◌≤◌, ◌<◌, Bool, true, false, cond, ◌≡◌, refl, leb, ltb, eqb, length, get_or, Float}
use mathlib.Core.List.{List, [], ◌∷◌, ◌++◌}
use Rattle.std.proofs.Common.{sym, ap₂, ◌∙◌, arith}
use Rattle.std.proofs.Math.Path.{ap, subst}
use Rattle.std.proofs.Math.ListN.{take, get_or-eq_default}
use Rattle.std.proofs.Math.Seq.{length-take-le}
use borrow.Author.Tests.{ne_eqb, le-leb, lt-leb, ltb-true, ltb-false}
use Rattle.lists.specs.Four.{at}
use Rattle.lists.specs.Test.{decide}
use Rattle.lists.specs.Grow.{over}
use Rattle.model.specs.declared.Header.{Header}
use Rattle.model.specs.declared.Refusal.{Refusal}
use Rattle.model.specs.Header.{stored, count, len}
use Rattle.model.specs.Refusals.{refused_by, no_refusal}
use Rattle.model.specs.Gates.{bad_word}
use Rattle.model.specs.Word.{header_of, good_word}
use Rattle.shape_words.specs.Rules.{Good, ruled-at}
use Rattle.shape_words.specs.Words.{good_word_lem}
use Rattle.npy_files.specs.Results.{Written}
use Rattle.npy_files.specs.Shapes.{shape_of}
use Rattle.npy_files.specs.Writes.{data_out, front_out, file_out, file_length, write_gate, write_answer, write_file}
use Rattle.npy_bytes.specs.Words.{length_data}
use Rattle.npy_writing.specs.Front.{Shaped, PutFront}
use Rattle.sheet_text.specs.Put.{Put, put_then, put_front_lem}

by-gate : (newer : Bool) (w : ℕ) (a : List Float) (old : List ℕ) (q : Refusal) → (q.number ≡ 0 → ⊥) → write_gate w (length a) (length old) ≡ q
    → (Err q ≡ write_answer w a old) × (old ≡ write_file newer w a old)
unfolding write_answer write_file
by-gate newer w a old q n e = let z : eqb q.number 0 ≡ false = ne_eqb q.number 0 n in (rw (e, z), rw (e, z))

small_at_lem : (n : List ℕ) → length n ≡ 4 → ((k : ℕ) → k < 4 → at n k ≤ 64) → (k : ℕ) → at n k ≤ 64
small_at_lem n e f k =
    decide (ltb k 4)
    (λ t. f k (ltb-true k 4 t))
    (λ t. let z : at n k ≡ 0 = get_or-eq_default n 0 (omega (arith, e, ltb-false k 4 t)) in omega (arith, z))

module _ (newer : Bool) (w : ℕ) (a : List Float) (old : List ℕ) {g : Bool} (eg : g ≡ good_word w) where
  abbrev Refusing : Written → Type 0
  Refusing r = (r ≡ write_answer w a old) × (old ≡ write_file newer w a old)

  pub write_bad : {q : Refusal} → g ≡ false → q ≡ bad_word w 64 → Refusing (Err q)
  unfolding write_gate
  write_bad {q} h e = by-gate newer w a old q (λ k. omega (arith, k, ap (λ (x : Refusal). x.number) e)) (rw (sym eg ∙ h) (sym e))

  module _ (good : g ≡ true) where
    is_good_lem : good_word w ≡ true
    is_good_lem = sym eg ∙ good

    abbrev h : Header
    h = header_of w

    facts : Good (header_of w)
    facts = good_word_lem w is_good_lem

    pub write-shaped : Shaped h.vars h.lengths
    write-shaped =
        record {
          few = facts.regular.rules.few;
          long = ap length facts.regular.ns;
          small =
              λ k. small_at_lem h.lengths (ap length facts.regular.ns)
              (λ i l. let v = ruled-at facts.regular.rules i l in omega (arith, v.fit, v.most)) k;
        }

    module _ {c : ℕ} (ec : c ≡ count h.lengths) where
      pub write-few : {r : Written} → length a < c → r ≡ Err (refused_by 2) → Refusing r
      unfolding write_gate
      write-few l e =
          let z = by-gate newer w a old (refused_by 2) (λ k. omega (arith, k)) (rw (is_good_lem, lt-leb (stored h) (length a) (omega (arith, l, ec)))) in
          (e ∙ z.0, z.1)

      module _ (l : c ≤ length a) where
        pub write_short_lem : {r : Written} → length old < 128 + 8 * c → r ≡ Err (refused_by 5) → Refusing r
        unfolding write_gate
        write_short_lem m e =
            let z =
            by-gate newer w a old (refused_by 5) (λ k. omega (arith, k))
            (rw (
              is_good_lem,
              le-leb (stored h) (length a) (omega (arith, l, ec)),
              lt-leb (file_length w) (length old) (omega (arith, m, ec)),
            )) in
            (e ∙ z.0, z.1)

        module _ (m : 128 + 8 * c ≤ length old) where
          open-gate : write_gate w (length a) (length old) ≡ no_refusal
          unfolding write_gate
          open-gate = rw (is_good_lem, le-leb (stored h) (length a) (omega (arith, l, ec)), le-leb (file_length w) (length old) (omega (arith, m, ec)))

          pub write_done : {k : Header} {mid new : List ℕ} {s e : ℕ} → k ≡ h → PutFront newer (shape_of k) old mid s → Put s (data_out (take c a)) mid new e
              → (Ok e ≡ write_answer w a old) × (new ≡ write_file newer w a old)
          unfolding write_answer write_file file_out
          write_done {k} {mid} {new} {s} {e} ek p' q =
              let p : PutFront newer (shape_of h) old mid s = subst (λ (x : Header). PutFront newer (shape_of x) old mid s) ek p' in
              let z = put_front_lem (put_then p.put q) in
              let long : e ≡ file_length w = omega (arith, q.behind, p.is, length_data (take c a), length-take-le c a l, ec) in
              let d : take c a ≡ take (stored h) a = ap (λ (n : ℕ). take n a) ec in
              (rw open-gate (ap Ok long), rw open-gate (z.1 ∙ ap (λ (x : List Float). over (front_out newer (shape_of h) ++ data_out x) old) d))
