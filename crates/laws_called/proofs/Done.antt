-- What rests on laws of specs/ (Done).
use Rattle.std.specs.Prelude.{Ok, ◌≡◌, List, ℕ, ◌-◌, Float}
use Rattle.std.proofs.Math.Path.{sym}
use Rattle.std.proofs.Common.{subst}
use Rattle.model.specs.declared.Header.{Header}
use Rattle.model.specs.declared.Refusal.{Refusal}
use Rattle.model.specs.Poly.{Poly, block_of}
use Rattle.model.specs.Answers.{answered, out_after}
use Rattle.model_textbook.specs.Textbook.{Series}
use Rattle.shape_words.specs.Rules.{Good}
use Rattle.shape_words.specs.Words.{packed-good}
use Rattle.shape.specs.Keeps.{Keeps, keeps-good}
use Rattle.laws_exact.specs.Wholes.{Is}
use Rattle.laws_called.specs.Done.{Holds, holds-held, out-holds, word-answered}

-- the general law: of any entry that makes a polynomial, g its gate's refusal, h what it announces, p its value
pub holds : {h : Header} (g : Refusal) (p : Poly) (out : List Float) {r : ℕ} {Z : Series} → answered g p ≡ Ok r → Good h → Keeps h p
    → Is h.limits (block_of p) Z → Holds h r (out_after g h p out) Z
holds {h} g p out {r} {Z} done t k w =
    let e = out-holds g p done k out in
    holds-held (rw (word-answered g p done) (packed-good p.head (keeps-good t k)))
    (subst (Keeps h) (sym e) k) (subst (λ (q : Poly). Is h.limits (block_of q) Z) (sym e) w)
