-- Kind 11: the exponential of one operand, the head by its constant.
use Rattle.std.specs.Prelude.{ℕ, ◌*◌, ◌≤◌, ◌<◌, List, ◌≡◌, length, get_or, take, Float}
use Rattle.std.proofs.Math.Bool.{false}
use Rattle.std.proofs.Math.Path.{refl, sym}
use Rattle.std.proofs.Common.{ap, ◌∙◌, arith, le_refl, take_all}
use Rattle.std.specs.Float.{nan}
use Rattle.model.specs.declared.Header.{Header}
use Rattle.model.specs.declared.Family.TheVariants.{Series}
use Rattle.model.specs.Header.{stored, no_header}
use Rattle.model.specs.Word.{header_of, word_of}
use Rattle.model.specs.Announced.{announced}
use Rattle.model.specs.Refusals.{padded}
use Rattle.model.specs.Poly.{Poly, poly, held}
use Rattle.model.specs.Series.{exp_rows, exp_poly}
use Rattle.model_exponential.specs.Head.{exp_head}
use Rattle.model_exponential.specs.Step.{exponential_poly}
use Rattle.shape_words.specs.Rules.{Good, none-regular}
use Rattle.shape_words.specs.Lengths.{lengths_of_lem, count-pos}
use Rattle.shape_words.specs.Words.{unpack-pack, packed-good}
use Rattle.shape.specs.Announced.{announced-regular}
use Rattle.gates.specs.Gate.{WorkReady}
use Rattle.readings_row.specs.Term.{padded-full}
use Rattle.laws_keeps.specs.SeriesKeeps.{exp-keeps, exp_head_lem}
use Rattle.shape.specs.Keeps.{Keeps}
use Rattle.series_gathering.specs.Whole.{Whole}
use Rattle.series.specs.Entry.{entry_whole, entry-head, entry-coeffs}

-- x the operand's header, h the announced one, n its count
pub record Exponential (x h : Header) (n : ℕ) : Type 0 where
  pub left : Good x
  pub is : h ≡ announced Series x no_header
  pub most : stored h ≤ 4096
  pub all : n ≡ stored h

module _ {x h : Header} {n : ℕ} (g : Exponential x h n) where
  unpack-x : header_of (word_of x) ≡ x
  unpack-x = unpack-pack x g.left.regular

  -- as an entry's gate would find it
  ready : WorkReady Series (word_of x) (stored x) n (8 * n)
  ready =
      record {
        one = record {
          word = packed-good x g.left;
          good = rw unpack-x g.left;
          full = rw unpack-x (le_refl _);
          announced = rw unpack-x (record { regular = announced-regular Series g.left.regular none-regular; most = rw (← g.is) g.most });
          room = rw (unpack-x, ← g.is) (omega (arith, g.all));
        };
        spare = rw (unpack-x, ← g.is) (omega (arith, g.all));
      }

  pub some : 0 < stored x
  some = count-pos (lengths_of_lem g.left.regular.rules)

  pub whole : {ka ko kw : ℕ} → ka ≡ stored x → ko ≡ n → kw ≡ 8 * n → Whole x.lengths h.lengths n ka ko kw
  whole pa po pw =
      let eh : h ≡ announced Series (header_of (word_of x)) no_header = rw unpack-x g.is in
      entry_whole ready (sym unpack-x) eh refl g.all pa po pw

  -- a the operand's coefficients
  module _ (a : List Float) (f : length a ≡ stored x) where
    held-is : held (word_of x) a ≡ poly x a
    held-is = rw unpack-x (ap (poly x) (take_all (stored x) a (omega (arith, f))))

    pub exponential-head : h ≡ (exponential_poly (poly x a)).head
    unfolding exponential_poly
    exponential-head = g.is ∙ sym (exp_head_lem (exp_head (get_or a 0 nan)) (poly x a) g.left.regular)

    pub exponential-places : {e : Float} {o : List Float} → e ≡ exp_head (get_or a 0 nan)
        → o ≡ exp_rows e x.lengths h.lengths 4 0 a → o ≡ (exponential_poly (poly x a)).coeffs
    unfolding exponential_poly
    exponential-places {e} {o} ee eo =
        let eh : h ≡ announced Series (header_of (word_of x)) no_header = rw unpack-x g.is in
        let k : o ≡ (exp_poly e (held (word_of x) a)).coeffs =
        entry-coeffs false e (word_of x) a (sym unpack-x) eh refl (rw (take_all (stored x) a (omega (arith, f))) eo) in
        k ∙ rw (held-is, ee)

    pub exponential-full : padded n (exponential_poly (poly x a)).coeffs ≡ (exponential_poly (poly x a)).coeffs
    unfolding exponential_poly
    exponential-full =
        let k = exp-keeps (exp_head (get_or a 0 nan)) (poly x a) g.left.regular in
        sym (padded-full (exp_poly (exp_head (get_or a 0 nan)) (poly x a)).coeffs
        (k.full ∙ (ap stored (exp_head_lem (exp_head (get_or a 0 nan)) (poly x a) g.left.regular ∙ sym g.is) ∙ sym g.all)))
