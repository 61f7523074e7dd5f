-- `house::house_of` meets its contract. Assumes nothing.
use borrow.Author.Tests.{lt-leb, le-leb, eq-eqb, ne_eqb}
use mathlib.Core.Path.{refl, sym, ◌∙◌}
use Rattle.house.proofs.Files.{read}
use Rattle.house.proofs.house_of.Goals as goal

pub returns-then-c-gt1 : goal.returns-then-c-gt1
returns-then-c-gt1 c = sym (read _ c.u32_at-c.result _ _ c.u32_at-c.ensures.value refl refl ∙ simp (lt-leb _ _ c.if-c-gt1.true))

pub returns-then-expiries-ne1 : goal.returns-then-expiries-ne1
returns-then-expiries-ne1 c = sym
    (read _ c.u32_at-c.result c.u32_at-expiries.result _ c.u32_at-c.ensures.value c.u32_at-expiries.ensures.value refl
    ∙ simp (le-leb _ _ c.if-c-gt1.false, ne_eqb _ _ c.if-expiries-ne1.true))

pub returns-then-n-gt256 : goal.returns-then-n-gt256
returns-then-n-gt256 c = sym
    (read _ c.u32_at-c.result c.u32_at-expiries.result c.u32_at-n.result c.u32_at-c.ensures.value c.u32_at-expiries.ensures.value c.u32_at-n.ensures.value
    ∙ simp (le-leb _ _ c.if-c-gt1.false, eq-eqb _ _ c.if-expiries-ne1.false, lt-leb _ _ c.if-n-gt256.true))

pub returns-then-s-size : goal.returns-then-s-size
returns-then-s-size c = sym
    (read _ c.u32_at-c.result c.u32_at-expiries.result c.u32_at-n.result c.u32_at-c.ensures.value c.u32_at-expiries.ensures.value c.u32_at-n.ensures.value
    ∙ simp (le-leb _ _ c.if-c-gt1.false, eq-eqb _ _ c.if-expiries-ne1.false, le-leb _ _ c.if-n-gt256.false, ne_eqb _ _ c.if-s-size.true))

pub returns : goal.returns
returns c = sym
    (read _ c.u32_at-c.result c.u32_at-expiries.result c.u32_at-n.result c.u32_at-c.ensures.value c.u32_at-expiries.ensures.value c.u32_at-n.ensures.value
    ∙ simp (le-leb _ _ c.if-c-gt1.false, eq-eqb _ _ c.if-expiries-ne1.false, le-leb _ _ c.if-n-gt256.false, eq-eqb _ _ c.if-s-size.false))
