use mathlib.Core.Path.{ap}
use Rattle.model.specs.declared.Refusal.{Refusal}
use native.Mathlib.Omega.{arith}
use Rattle.sheet_reading.specs.Reading.{rest-line, rest_byte, rest-none}
use mathlib.Core.Path.{sym, ◌∙◌}
use Rattle.sheet_reading.proofs.rest_refusal.Goals as goal

pub returns-then-not-all_lined : goal.returns-then-not-all_lined
returns-then-not-all_lined c =
    record {
      some = λ z. omega (arith, ap (λ (r : Refusal). r.number) c.by.ensures, z);
      holds = c.by.ensures ∙ rest-line c.args.text.now c.args.n c.args.from
          (sym c.all_lined.ensures ∙ c.if-not-all_lined.true);
    }

pub returns-then-from-n : goal.returns-then-from-n
returns-then-from-n c =
    record {
      some = λ z. omega (arith, ap (λ (r : Refusal). r.number) c.by-then-from-n.ensures, z);
      holds = c.by-then-from-n.ensures ∙ rest_byte c.args.text.now c.args.n c.args.from
          (sym c.all_lined.ensures ∙ c.if-not-all_lined.false)
          c.if-from-n.true;
    }

pub returns : goal.returns
returns c =
    rest-none c.args.text.now c.args.n c.args.from
    (sym c.all_lined.ensures ∙ c.if-not-all_lined.false)
    c.if-from-n.false
