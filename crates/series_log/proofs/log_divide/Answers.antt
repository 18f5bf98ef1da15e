use native.Mathlib.Omega.{arith}
use mathlib.Core.List.{List, ◌++◌}
use mathlib.Core.Path.{◌≡◌, refl, sym, ap, ◌∙◌}
use Prim.Native.Nat.{ℕ, ◌+◌, ◌-◌}
use lib.ListN.{length, drop}
use lib.Seq.{length-take-le}
use lib.Ieee.{Float}
use borrow.Table.Elements.{same_len}
use borrow.Rule.Slice.PartMut.{put_mid}
use Rattle.lists.specs.Part.{part, length_part}
use Rattle.model.specs.Poly.{block}
use Rattle.model.specs.Quotient.{recurred}
use Rattle.series_log.specs.LogDone.{divisor-is}
use borrow.Author.Rules.{rules}
use Rattle.series_log.proofs.log_divide.Goals as goal

pub slice_bounds-copy-end-2 : goal.slice_bounds-copy-end-2
slice_bounds-copy-end-2 c =
    sym (length-take-le (length c.args.row.now) c.args.work.now (let e = c.requires.work in omega arith))

pub copy-requires : goal.copy-requires
copy-requires c =
    omega (arith, (length-take-le (length c.args.row.now) c.args.work.now (let e = c.requires.work in omega arith)))

pub returns : goal.returns
returns c = record {
  row_after = let s : ℕ = length c.args.row.now in
      let t : ℕ = length c.args.xs.now in
      let w1 : List Float = c.copy.new.to ++ drop s c.args.work.now in
      let w2 : List Float = put_mid s (s + t - s) w1 c.copy-2.new.to in
      let g = c.requires.less in let h = c.requires.work in
      let d : s + t - s ≡ t = omega arith in
      let l : length w1 ≡ length c.args.work.now =
      same_len s c.args.work.now c.copy.new.to c.copy.auto.to in
      let e =
      divisor-is c.requires c.args.xs.now c.args.row.now c.args.work.now refl refl refl
      c.copy.ensures (length-take-le (length c.args.row.now) c.args.work.now
      (let e = c.requires.work in omega arith)) c.copy-2.ensures
      (length_part s (s + t) w1 (omega arith) (omega arith) ∙ d) d in
      c.recur.ensures.out_after
      ∙ (ap (λ (l : List Float). recurred (block c.args.ar l) (block c.args.ax (part s (s + t) w2))
      c.args.ar) e.0 ∙ ap (λ (l : List Float).
      recurred (block c.args.ar c.args.row.now) (block c.args.ax l) c.args.ar)
      e.1);
  spent = (search rules);
}
