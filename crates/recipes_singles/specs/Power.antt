-- Kind 6: the power of one operand, which is loaded into the work.
use Rattle.std.specs.Prelude.{ℕ, ◌*◌, ◌≤◌, ◌<◌, List, ◌≡◌, refl, length, Float}
use Rattle.std.proofs.Common.{sym, ap, ◌∙◌, arith, le_refl}
use Rattle.model.specs.declared.Header.{Header}
use Rattle.model.specs.declared.Family.TheVariants.{Power}
use Rattle.model.specs.Header.{stored, no_header, with_lengths}
use Rattle.model.specs.Word.{header_of, word_of}
use Rattle.model.specs.Announced.{announced}
use Rattle.model.specs.Refusals.{padded}
use Rattle.model.specs.Poly.{Poly, poly, poly_of}
use Rattle.model.specs.Power.{power_poly}
use Rattle.shape_words.specs.Rules.{Good, none-regular}
use Rattle.shape_words.specs.Words.{unpack-pack, packed-good}
use Rattle.shape.specs.Announced.{announced-regular}
use Rattle.gates.specs.Gate.{WorkReady}
use Rattle.power.specs.Room.{power_block, lain, Loaded, Powers}
use Rattle.power.specs.Kept.{powers_base}
use Rattle.power.specs.Ends.{loaded-same}
use Rattle.power.specs.Entry.{entry-powers, block-value}

-- x the operand's header, h the announced one, n its count
pub record Powering (e : ℕ) (x h : Header) (n : ℕ) : Type 0 where
  pub left : Good x
  pub is : h ≡ announced (Power e) x no_header
  pub most : stored h ≤ 4096
  pub all : n ≡ stored h

module _ {e : ℕ} {x h : Header} {n : ℕ} (g : Powering e x h n) where
  unpack-x : header_of (word_of x) ≡ x
  unpack-x = unpack-pack x g.left.regular

  -- as an entry's gate would find it
  ready : WorkReady (Power e) (word_of x) (stored x) n (8 * n)
  ready =
      record {
        one = record {
          word = packed-good x g.left;
          good = rw unpack-x g.left;
          full = rw unpack-x (le_refl _);
          announced = rw unpack-x (record { regular = announced-regular (Power e) g.left.regular none-regular; most = rw (← g.is) g.most });
          room = rw (unpack-x, ← g.is) (omega (arith, g.all));
        };
        spare = rw (unpack-x, ← g.is) (omega (arith, g.all));
      }

  pub powering : {mw mo : ℕ} → mw ≡ 8 * n → mo ≡ n → Powers x.lengths h.limits e n mw mo
  powering pw po = let eh : h ≡ announced (Power e) (header_of (word_of x)) no_header = rw unpack-x g.is in entry-powers ready (sym unpack-x) eh g.all pw po

  -- the operand fits, where it is asked for
  pub base-fits : {mw : ℕ} → mw ≡ 8 * n → 0 < e → stored x ≤ mw
  base-fits pw some = omega (arith, powers_base (powering pw refl) some)

  module _ (a : List Float) {w : List Float} (l : Loaded e a w) (f : length a ≡ stored x) where
    value-is : poly_of h (power_block e h.limits (lain 0 x.lengths w)) ≡ power_poly e (poly x a)
    value-is = ap (poly_of h) (loaded-same e h.limits x.lengths l f) ∙ rw g.is (block-value e (poly x a) g.left.regular)

    pub power-head : {r : List ℕ} → r ≡ (power_block e h.limits (lain 0 x.lengths w)).lengths
        → with_lengths h r ≡ (power_poly e (poly x a)).head
    power-head k = rw k (ap (λ (p : Poly). p.head) value-is)

    pub power-places : {o : List Float} → o ≡ padded n (power_block e h.limits (lain 0 x.lengths w)).places
        → o ≡ padded n (power_poly e (poly x a)).coeffs
    power-places k = k ∙ ap (λ (p : Poly). padded n p.coeffs) value-is
