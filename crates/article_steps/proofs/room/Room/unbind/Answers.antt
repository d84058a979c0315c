use Rattle.std.proofs.Common.{◌≡◌, ℕ, zero, suc, ◌-◌, ◌≤◌, List, [], ◌∷◌, length, take, drop, get_or, sym, ap, ◌∙◌, arith}
use Rattle.std.specs.Prelude.{reverse}
use Rattle.std.proofs.Math.Seq.{take-suc}
use Rattle.std.proofs.lemmas.List.{reverse-append}
use Rattle.hol_type.specs.declared.table.TypeId.{TypeId}
use Rattle.article_steps.specs.Agendas.{unbound}
use Rattle.article_steps.proofs.room.Room.unbind.Goals as goal

-- without the last, from the last to the first
reversed-front : (xs : List TypeId) (depth less : ℕ) → less ≡ depth - 1 → depth ≤ length xs → reverse (take less xs) ≡ drop 1 (reverse (take depth xs))
reversed-front xs zero less e h = ap (λ n. reverse (take n xs)) (let z : less ≡ 0 = omega (arith, e) in z)
reversed-front xs (suc n) less e h =
    let last : TypeId = get_or xs n (record { 0 = 0 }) in
    ap (λ k. reverse (take k xs)) (let z : less ≡ n = omega (arith, e) in z)
    ∙ sym (ap (drop 1) (ap reverse (take-suc xs n (record { 0 = 0 }) (omega (arith, h))) ∙ reverse-append (take n xs) (last ∷ [])))

pub returns : goal.returns
returns c =
    let same = reversed-front c.self.inside.binders.items c.self.inside.depth c.saturating_sub-self-inside.result c.saturating_sub-self-inside.ensures
    (omega (arith, c.self.invariant.1)) in
    ap (λ bs. record { room = length c.self.inside.jobs.items; jobs = reverse (take c.self.inside.len c.self.inside.jobs.items); binders = bs }) same
    ∙ ap unbound c.self.view_is
