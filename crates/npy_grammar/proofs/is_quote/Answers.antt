use mathlib.Core.Path.{refl}
use Rattle.npy_grammar.specs.Reading.{is_quote}
use Rattle.npy_grammar.proofs.is_quote.Goals as goal

pub returns : goal.returns
unfolding is_quote
returns c = refl
