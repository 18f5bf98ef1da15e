use Prim.Native.Nat.{ℕ, ◌+◌, ◌-◌, ◌≤◌}
use lib.ListN.{length}
use Rattle.product_linear.specs.Lined.{part_length, mid-length, first-is, middle-is, last-is, row-lined}
use native.Mathlib.Omega.{arith}
use mathlib.Core.Path.{◌≡◌, refl, ◌∙◌}
use Rattle.product_linear.proofs.line_row.Goals as goal

reach-in : {x y z : ℕ} → y ≡ z → x ≤ z → x ≤ y
reach-in e h = omega arith

mid-in : {x y z w : ℕ} → y ≡ z → w ≤ x → x ≤ z → w + (x - w) ≤ y
mid-in e h k = omega arith

end-in : {y z : ℕ} → y ≡ z → z ≤ y
end-in e = omega arith

pub returns : goal.returns
returns c =
    let small = c.requires.small in let reach = c.requires.reach in let most = c.requires.most in
    let q1 : c.args.s - 0 ≡ c.args.s = omega arith in
    let back : length c.args.a.now - (length c.args.a.now - c.args.s) ≡ c.args.s = omega arith in
    let l1 = part_length 0 c.args.s c.args.to.now (omega arith) (omega arith) in
    let m1 = mid-length 0 (c.args.s - 0) c.args.to.now c.line_first.new.to (omega arith) (c.line_first.auto.to ∙ l1) in
    let l2 = part_length c.args.s (length c.args.a.now) _ small (reach-in m1 reach) in
    let m2 =
    mid-length c.args.s (length c.args.a.now - c.args.s) _ c.line_middle.new.to (mid-in m1 small reach)
    (c.line_middle.auto.to ∙ l2) in
    let l3 = part_length (length c.args.a.now) (length c.args.to.now) _ reach (end-in (m2 ∙ m1)) in
    row-lined c.args.c c.args.m c.args.s c.args.a.now c.args.to.now c.requires q1 refl refl
    (first-is c.args.c c.args.m c.args.s c.args.a.now small c.line_first.ensures (l1 ∙ q1))
    (middle-is c.args.c c.args.m c.args.s c.args.a.now refl refl c.line_middle.ensures l2)
    (last-is c.args.c c.args.m c.args.s c.args.a.now small (length c.args.to.now) most refl back c.line_last.ensures l3)
