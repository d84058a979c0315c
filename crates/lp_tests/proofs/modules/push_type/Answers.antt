use Rattle.std.proofs.Common.{◌≡◌, ◌≤◌, ◌++◌, ◌∷◌, [], ℕ, List, ap, sym, subst, ◌∙◌, refl, arith, length-append, length, IsFalse, None}
use Rattle.std.proofs.lemmas.Result.{on_ok_weaker}
use Rattle.lp_spec.specs.declared.form.Form.TheVariants.{Symbol}
use Rattle.lp_spec.specs.Trees.{Tree}
use Rattle.lp_spec.specs.Modules.{Declaration, signature, symbol, types}
use Rattle.lp_spec.specs.ModuleOrder.{MayFollow, is_declared}
use Rattle.lp_term.specs.declared.LpId.{LpId}
use Rattle.lp_term.specs.Tables.{Holds, tree_at}
use Rattle.lp_term.specs.TableLaws.{Holds-tree_at}
use Rattle.holide_sig.specs.Modules.{declaration_in, declarations_of}
use Rattle.holide_sig.specs.ModuleLaws.{IsHeld-Keeps, declarations_of-Keeps}
use Rattle.lp_tests.proofs.modules.push_type.Goals as goal

follows : (before : List Declaration) (name : List ℕ) → 1 ≤ length before → IsFalse (is_declared before name) → MayFollow before (symbol name types)
follows before name h new = record { new_name = new; ty = record { closed = refl; kindless = refl; known = h }; body = refl }

declared : (ts : List Tree) (bytes name : List ℕ) (ty : LpId) → Holds ts ty.0 types → bytes ≡ name
    → declaration_in ts (record { name = bytes; form = Symbol; ty = ty; body = None }) ≡ symbol name types
declared ts bytes name ty held e = let t : tree_at ts ty.0 ≡ types = Holds-tree_at ts ty.0 types held in cc

-- the declaration that is pushed
the_symbol : (c : goal.After-push-arg-1) → declaration_in c.node.new.self (record { name = c.new-name.result; form = Symbol; ty = c.in_ok-ty.ty; body = None })
    ≡ symbol c.args.name.now types
the_symbol c = declared c.node.new.self c.new-name.result c.args.name.now c.in_ok-ty.ty c.in_ok-ty.ensures.made
    (c.new-name.ensures ∙ c.in_ok-from_slice.ensures.items)

grown : (c : goal.After-push-arg-1) → declarations_of (record { table = c.node.new.self; decls = c.args.into.now.decls }) ≡ declarations_of c.args.into.now
grown c = declarations_of-Keeps c.args.into.now c.node.new.self c.node.ensures.keeps c.requires.held

pub push-requires-clause-held : goal.push-requires-clause-held
push-requires-clause-held c = IsHeld-Keeps c.args.into.now c.node.new.self c.node.ensures.keeps c.requires.held

pub push-requires-clause-known : goal.push-requires-clause-known
push-requires-clause-known c = record { ty = c.in_ok-ty.ensures.known; body = tt }

pub push-requires-clause-follows : goal.push-requires-clause-follows
push-requires-clause-follows c =
    subst (MayFollow (signature ++ declarations_of (record { table = c.node.new.self; decls = c.args.into.now.decls }))) (sym (the_symbol c))
    (subst (λ ds. MayFollow (signature ++ ds) (symbol c.args.name.now types)) (sym (grown c))
    (follows (signature ++ declarations_of c.args.into.now) c.args.name.now (omega (arith, length-append signature (declarations_of c.args.into.now)))
    c.requires.new_name))

pub returns-clause-ok : goal.returns-clause-ok
returns-clause-ok c =
    let ds = declarations_of c.args.into.now in
    let same = declared c.node.new.self c.new-name.result c.args.name.now c.in_ok-ty.ty c.in_ok-ty.ensures.made
    (c.new-name.ensures ∙ c.in_ok-from_slice.ensures.items) in
    let old = declarations_of-Keeps c.args.into.now c.node.new.self c.node.ensures.keeps c.requires.held in
    on_ok_weaker c.push.result (λ e. e
    ∙ ap (λ l. l ++ declaration_in c.node.new.self (record { name = c.new-name.result; form = Symbol; ty = c.in_ok-ty.ty; body = None }) ∷ []) old
    ∙ ap (λ d. ds ++ d ∷ []) same) c.push.ensures.declared
