-- What a caller holds after a call that was not refused: under the word that was answered, the buffer holds the
-- operation's polynomial. So where the polynomial is the exact one, what the caller reads at each index is.
use Rattle.std.specs.Prelude.{Ok, Err, ◌≡◌, true, false, List, ◌++◌, ℕ, ◌-◌, ◌≤◌, eqb, length, get_or, take, drop, pos, Float}
use Rattle.std.proofs.Math.Path.{sym, ap}
use Rattle.std.proofs.Common.{subst, ◌∙◌, append_assoc, arith, length-take, take_all, get_or-take}
use Rattle.std.proofs.lemmas.List.{take-append-le}
use Rattle.std.specs.Float.{nan}
use borrow.Author.Tests.{eqb-true, eq-eqb}
use Rattle.lists.specs.Test.{decide}
use Rattle.model.specs.declared.Header.{Header}
use Rattle.model.specs.declared.Refusal.{Refusal}
use Rattle.model.specs.Results.{Answer}
use Rattle.model.specs.Header.{stored}
use Rattle.model.specs.Word.{header_of, word_of, good_word}
use Rattle.model.specs.Places.{place, inside}
use Rattle.model.specs.Refusals.{answer_by, zeros, leaves, written}
use Rattle.model.specs.Poly.{Poly, block_of, held}
use Rattle.model.specs.Answers.{answered, out_after}
use Rattle.model_textbook.specs.Textbook.{Series}
use Rattle.laws_whole.specs.Whole.{Whole}
use Rattle.shape_words.specs.Rules.{Good}
use Rattle.shape_words.specs.Words.{unpack-pack, packed-good}
use Rattle.shape_words.specs.Lengths.{Inside}
use Rattle.shape_words.specs.Places.{place-lt}
use Rattle.shape.specs.Keeps.{Keeps, keeps-good}
use Rattle.laws_exact.specs.Wholes.{Is, stored_at, past-at}
use Rattle.laws_exact.specs.Results.{keeps-sits}
use Rattle.laws_exact.specs.Firsts.{stored-under}

-- what is written, read under the value's own header, is the value
pub held_back : {h : Header} (p : Poly) → Keeps h p → (out : List Float) → held (word_of p.head) (written (stored h) p.coeffs out) ≡ p
unfolding written
held_back {h} p k out =
    let e : take (stored p.head) ((p.coeffs ++ zeros (stored h - length p.coeffs)) ++ drop (stored h) out) ≡ p.coeffs =
    rw (append_assoc p.coeffs (zeros (stored h - length p.coeffs)) (drop (stored h) out))
    (take-append-le (stored p.head) p.coeffs (zeros (stored h - length p.coeffs) ++ drop (stored h) out) (omega (arith, k.full))
    ∙ take_all (stored p.head) p.coeffs (omega (arith, k.full))) in
    rw (unpack-pack p.head k.regular, e)

-- ---- an answer that is no refusal

is_done : Answer → ℕ
is_done (Ok w) = 1
is_done (Err r) = 0

word_in : Answer → ℕ
word_in (Ok w) = w
word_in (Err r) = 0

module _ (g : Refusal) (p : Poly) {r : ℕ} (done : answered g p ≡ Ok r) where
  pub not_refused : g.number ≡ 0
  unfolding answer_by is_done
  not_refused =
      decide (eqb g.number 0) (eqb-true g.number 0)
      (λ t. let e : Err g ≡ Ok r = rw t at done in absurd (omega (arith, ap is_done e)))

  pub word-answered : r ≡ word_of p.head
  unfolding answer_by word_in
  word-answered = let e : Ok (word_of p.head) ≡ Ok r = rw (eq-eqb g.number 0 not_refused) at done in sym (ap word_in e)

  -- under the word answered, the buffer holds the value
  pub out-holds : {h : Header} → Keeps h p → (out : List Float) → held r (out_after g h p out) ≡ p
  unfolding leaves
  out-holds k out = rw (word-answered, eq-eqb g.number 0 not_refused) (held_back p k out)

-- ---- in the caller's terms

-- h is the announced header, r the word answered, out the buffer as it was left, Z the exact result. The word is one
-- that can be lent again with the buffer; at an index that it stores, the float there is the exact number; past the
-- stored lengths, under the limits, the exact number is zero.
pub record Holds (h : Header) (r : ℕ) (out : List Float) (Z : Series) : Type 0 where
  pub good : good_word r ≡ true
  pub limits : (header_of r).limits ≡ h.limits
  pub full : stored (header_of r) ≤ length out
  pub at : (k : List ℕ) → length k ≡ 4 → Inside (header_of r).lengths k → Whole (get_or out (place (header_of r).lengths k) nan) (Z k)
  pub past : (k : List ℕ) → length k ≡ 4 → Inside (header_of r).limits k → inside (header_of r).lengths k ≡ false → Z k ≡ pos 0

pub holds-held : {h : Header} {r : ℕ} {out : List Float} {Z : Series} → good_word r ≡ true → Keeps h (held r out) → Is h.limits (block_of (held r out)) Z
    → Holds h r out Z
holds-held {h} {r} {out} g k w = record {
  good = g;
  limits = k.under.limits;
  full = omega (arith, length-take (stored (header_of r)) out, k.full);
  at = λ i f o.
      let n = (header_of r).lengths in
      rw (get_or-take (stored (header_of r)) out (place n i) nan (place-lt n i o)) at
      (stored_at (block_of (held r out)) i (w.at i f (stored-under (keeps-sits k) o)) o);
  past = λ i f o. past-at (block_of (held r out)) i (w.at i f (rw k.under.limits at o));
}
