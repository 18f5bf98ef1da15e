-- REFERENCE 5.4. Document 01, 'What each answer owes': what an entry that makes a polynomial answers and leaves in its
-- buffers, from the gate's refusal, the announced header and the value. Every such entry's promise is these three.
use Rattle.std.specs.Prelude.{List, Float}
use Rattle.model.specs.declared.Header.{Header}
use Rattle.model.specs.declared.Refusal.{Refusal}
use Rattle.model.specs.Results.{Answer}
use Rattle.model.specs.Header.{stored}
use Rattle.model.specs.Word.{word_of}
use Rattle.model.specs.Refusals.{answer_by, leaves, written, cleared}
use Rattle.model.specs.Poly.{Poly}

-- the true header, which may be shorter than the announced one
abbrev pub answered : Refusal → Poly → Answer
answered r p = answer_by r (word_of p.head)

-- the result's buffer, which was `out`
abbrev pub out_after : Refusal → Header → Poly → List Float → List Float
out_after r h p out = leaves r (written (stored h) p.coeffs out) out

-- the scratch
abbrev pub scratch_after : Refusal → Header → List Float → List Float
scratch_after r h scratch = leaves r (cleared (stored h) scratch) scratch
