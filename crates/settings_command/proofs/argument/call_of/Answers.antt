use mathlib.Core.Bool.{Bool, ◌&&◌}
use mathlib.Core.Path.{sym, refl, ap₂, ◌∙◌}
use Rattle.lists.specs.Bytes.{bytes}
use Rattle.settings_command.specs.Tests.{call-0, call_1, call_2, call_3, call_4, call-5}
use Rattle.settings_command.proofs.argument.call_of.Goals as goal

pub returns-then-is_text-count : goal.returns-then-is_text-count
unfolding bytes
returns-then-is_text-count c = call_1 _ _ (ap₂ (λ (x y : Bool). x && y) (sym c.is_text.ensures) refl ∙ c.if-is_text-count.true)

pub returns-then-is_text-count-2 : goal.returns-then-is_text-count-2
unfolding bytes
returns-then-is_text-count-2 c =
    call_2 _ _ (ap₂ (λ (x y : Bool). x && y) (sym c.is_text.ensures) refl ∙ c.if-is_text-count.false) (ap₂ (λ (x y : Bool). x
    && y) (sym c.is_text-2.ensures) refl ∙ c.if-is_text-count-2.true)

pub returns-then-is_text-count-3 : goal.returns-then-is_text-count-3
unfolding bytes
returns-then-is_text-count-3 c =
    call_3 _ _ (ap₂ (λ (x y : Bool). x && y) (sym c.is_text.ensures) refl ∙ c.if-is_text-count.false) (ap₂ (λ (x y : Bool). x
    && y) (sym c.is_text-2.ensures) refl ∙ c.if-is_text-count-2.false) (ap₂ (λ (x y : Bool). x && y) (sym c.is_text-3.ensures) refl ∙ c.if-is_text-count-3.true)

pub returns-then-is_text-count-4 : goal.returns-then-is_text-count-4
unfolding bytes
returns-then-is_text-count-4 c =
    call_4 _ _ (ap₂ (λ (x y : Bool). x && y) (sym c.is_text.ensures) refl ∙ c.if-is_text-count.false) (ap₂ (λ (x y : Bool). x
    && y) (sym c.is_text-2.ensures) refl ∙ c.if-is_text-count-2.false) (ap₂ (λ (x y : Bool). x && y) (sym c.is_text-3.ensures) refl ∙
    c.if-is_text-count-3.false) (ap₂ (λ (x y : Bool). x && y) (sym c.is_text-4.ensures) refl ∙ c.if-is_text-count-4.true)

pub returns-then-is_text-count-5 : goal.returns-then-is_text-count-5
unfolding bytes
returns-then-is_text-count-5 c =
    call-5 _ _ (ap₂ (λ (x y : Bool). x && y) (sym c.is_text.ensures) refl ∙ c.if-is_text-count.false) (ap₂ (λ (x y : Bool).
    x && y) (sym c.is_text-2.ensures) refl ∙ c.if-is_text-count-2.false) (ap₂ (λ (x y : Bool). x && y) (sym c.is_text-3.ensures) refl ∙
    c.if-is_text-count-3.false) (ap₂ (λ (x y : Bool). x && y) (sym c.is_text-4.ensures) refl ∙ c.if-is_text-count-4.false)
    (ap₂ (λ (x y : Bool). x && y) (sym c.is_text-5.ensures) refl ∙ c.if-is_text-count-5.true)

pub returns : goal.returns
unfolding bytes
returns c =
    call-0 _ _ (ap₂ (λ (x y : Bool). x && y) (sym c.is_text.ensures) refl ∙ c.if-is_text-count.false) (ap₂ (λ (x y : Bool).
    x && y) (sym c.is_text-2.ensures) refl ∙ c.if-is_text-count-2.false) (ap₂ (λ (x y : Bool). x && y) (sym c.is_text-3.ensures) refl ∙
    c.if-is_text-count-3.false) (ap₂ (λ (x y : Bool). x && y) (sym c.is_text-4.ensures) refl ∙ c.if-is_text-count-4.false)
    (ap₂ (λ (x y : Bool). x && y) (sym c.is_text-5.ensures) refl ∙ c.if-is_text-count-5.false)
