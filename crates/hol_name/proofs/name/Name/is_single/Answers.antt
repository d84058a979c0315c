use Rattle.std.proofs.Common.{◌≡◌, ap, ◌∙◌, length, arith}
use Rattle.std.specs.Str.{bytes_eq}
use Rattle.std.proofs.lemmas.Grind.{common_steps}
use Rattle.hol_name.proofs.Values.{single-Decides}
use Rattle.hol_name.proofs.name.Name.is_single.Goals as goal

pub returns-then-components-eq1 : goal.returns-then-components-eq1
returns-then-components-eq1 c =
    let one : length c.components-components.result.now ≡ 1 = grind (arith, common_steps) in
    single-Decides (λ component. component.items) c.components-components.result.now c.index-components-0.result c.args.self.now c.args.text.now c.eq.result
    c.components-components.ensures.are
    one
    (c.eq.ensures ∙ ap (λ x. bytes_eq x c.args.text.now) (c.as_slice.ensures.value ∙ ap (λ v. v.items) c.index-components-0.is))
