use Rattle.std.proofs.Common.{◌∙◌, ap, sym, subst, map}
use Rattle.std.specs.Prelude.{IsTrue}
use Rattle.common.specs.Binding.{Pairwise}
use Rattle.lp_spec.specs.Modules.{signature}
use Rattle.lp_term.specs.Tables.{Holds, IsDistinct}
use Rattle.holide_sig.specs.declared.signature.TheConstants.{NODES}
use Rattle.holide_sig.specs.Modules.{signature_ids, AreDeclsKnown}
use Rattle.holide_sig.specs.Nodes.{are_new, trees_with}
use Rattle.holide_sig.proofs.SignatureNodes.{nodes_new, nodes_types, empty_distinct}
use Rattle.holide_sig.proofs.module.Module.new.Goals as goal

pub add_nodes-requires : goal.add_nodes-requires
add_nodes-requires c = record {
  distinct = subst IsDistinct (sym c.new-table.ensures.empty) empty_distinct;
  new = subst (λ ts. IsTrue (are_new ts NODES.now)) (sym c.new-table.ensures.empty) nodes_new;
}

pub returns-clause-held : goal.returns-clause-held
returns-clause-held c = record {
  types =
      subst (λ ts. Pairwise (Holds ts) signature_ids (map (λ d. d.ty) signature))
      (sym (c.in_ok-add_nodes.ensures.made ∙ ap (λ ts. trees_with ts NODES.now) c.new-table.ensures.empty)) nodes_types;
  decls = subst (AreDeclsKnown c.add_nodes.new.table) (sym c.new.ensures) tt;
  distinct = c.in_ok-add_nodes.ensures.distinct;
}
