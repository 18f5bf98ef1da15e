use native.Mathlib.Omega.{arith}
use mathlib.Core.Path.{◌≡◌, sym, ap, ◌∙◌}
use Prim.Native.Nat.{ℕ}
use lib.ListN.{length, take}
use Rattle.model.specs.Header.{count}
use Rattle.shape_words.specs.Lengths.{sizes-of}
use Rattle.blocks.specs.Same.{Same, same-is, same_count, cut-front}
use Rattle.blocks.specs.Merge.{cut-merged}
use Rattle.blocks.proofs.load.Goals as goal

pub copy-requires : goal.copy-requires
copy-requires c =
    let same : Same c.args.n c.args.c =
    same-is _ _ (sym c.is_same.ensures ∙ c.if-is_same.true) in
    omega (arith, c.requires.room, c.requires.full, same_count (same))

pub returns-then-is_same : goal.returns-then-is_same
returns-then-is_same c =
    let same : Same c.args.n c.args.c =
    same-is _ _ (sym c.is_same.ensures ∙ c.if-is_same.true) in
    let e : take (length c.args.to.now) c.args.a.now ≡ take (count c.args.c) c.args.a.now = ap (λ (k : ℕ). take k c.args.a.now) c.requires.full in
    c.copy.ensures ∙ (e ∙ cut-front c.args.n c.args.c c.args.a.now (same) (omega (arith, c.requires.room, same_count (same))))

pub longest_rows-rows-requires : goal.longest_rows-rows-requires
longest_rows-rows-requires c =
    record { fact_1 = sizes-of c.requires.from; fact_2 = sizes-of c.requires.to }

pub returns : goal.returns
returns c =
    c.load_rows.ensures ∙ cut-merged c.longest_rows-rows.ensures c.args.a.now
