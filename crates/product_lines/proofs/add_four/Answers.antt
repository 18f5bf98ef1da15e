use native.Mathlib.Omega.{arith}
use mathlib.Core.Path.{refl}
use lib.ListN.{length-set}
use Rattle.product_lines.proofs.add_four.Goals as goal

pub bounds-res-k-3 : goal.bounds-res-k-3
bounds-res-k-3 c = simp length-set (omega arith)

pub bounds-res-k-4 : goal.bounds-res-k-4
bounds-res-k-4 c = simp length-set (omega arith)

pub bounds-res-k-5 : goal.bounds-res-k-5
bounds-res-k-5 c = simp length-set (omega arith)

pub bounds-res-k-6 : goal.bounds-res-k-6
bounds-res-k-6 c = simp length-set (omega arith)

pub bounds-res-k-7 : goal.bounds-res-k-7
bounds-res-k-7 c = simp length-set (omega arith)

pub bounds-res-k-8 : goal.bounds-res-k-8
bounds-res-k-8 c = simp length-set (omega arith)

pub shape_of-res : goal.shape_of-res
shape_of-res c = simp length-set

pub returns : goal.returns
returns c = refl
