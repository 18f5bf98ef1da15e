use mathlib.Core.Path.{◌≡◌}
use lib.Ieee.{binary64, add}
use Rattle.model_exponential.specs.Head.{nine_f, exp_turns}
use Rattle.exponential_head.proofs.exp_head.Given as goal

-- h is what m turns give
abbrev pub invariant-loop-m : goal.invariant-loop-m
invariant-loop-m l = l.h ≡ exp_turns (add binary64 l.x nine_f) l.m
