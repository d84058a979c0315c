use Rattle.std.proofs.Common.{◌≡◌, ◌+◌, [], length, sym, ap, subst, reverse, arith}
use Rattle.std.specs.Prelude.{Vec}
use Rattle.std.specs.declared.alloc.Global.{Global}
use Rattle.lp_spec.specs.Trees.{Var}
use Rattle.lp_term.specs.declared.LpId.{LpId}
use Rattle.lp_spec.specs.Modules.{signature}
use Rattle.holide_sig.specs.Modules.{declaration_in}
use Rattle.holide_sig.specs.ModuleLaws.{symbols-length}
use Rattle.dk_read.specs.States.{AreOf, AreOfSymbols, AreAtoms, IsSoundIn}
use Rattle.dk_read.proofs.Grown.{AreOfSymbols-push, with_atoms}
use Rattle.dk_read.proofs.Bindings.{declared_in}
use Rattle.dk_read.proofs.Kept.{kept_same}
use Rattle.dk_read.proofs.parser.Parser.push.Goals as goal

pub returns-clause-ready : goal.returns-clause-ready
returns-clause-ready c =
    let p = c.args.self.now in
    let none : reverse p.frames.items ≡ [] = ap reverse c.requires.closed in
    let e = c.in_ok-push.ensures in
    let declared = declared_in p.module c.push.new.self p.names c.put.new.self p.nameless p.atoms p.binders p.head c.put.ensures.keeps c.args.name
    (declaration_in p.module.table c.args.decl) c.requires.name.1
    e.table e.held (e.is_module c.requires.sound.is_module) e.declared c.requires.follows.new_name (length signature + c.len-symbol.result)
    (omega (arith, symbols-length p.module.table p.module.decls, c.len-symbol.ensures.count)) c.put.ensures.puts
    (subst (IsSoundIn p.module p.names p.nameless p.atoms p.binders p.head) none c.requires.sound) in
    let place = c.in_ok-make_place.ensures in
    let trees = c.push.new.self.table in
    let atoms : AreAtoms trees c.make_place.new.self = (
      subst (λ (v : Vec LpId Global). AreOf Var trees v.items) (sym place.variables) declared.atoms.0,
      subst (AreOfSymbols trees) (sym place.symbols) (AreOfSymbols-push trees p.atoms.symbols.items declared.atoms.1),
    ) in
    record {
      sound = subst (IsSoundIn c.push.new.self c.put.new.self p.nameless c.make_place.new.self p.binders p.head) (sym none)
          (with_atoms c.push.new.self c.put.new.self p.nameless p.atoms c.make_place.new.self p.binders p.head [] atoms declared);
      known = c.requires.closed;
    }

pub returns-clause-keeps : goal.returns-clause-keeps
returns-clause-keeps c = kept_same c.in_ok-push.ensures.table
