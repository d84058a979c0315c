-- An environment in which something else is let stand for a free variable or prove a hypothesis.
use Rattle.std.proofs.Common.{◌≡◌, ◌<◌, sym, subst, length}
use Rattle.tree_map.specs.Entries.{insert_entry}
use Rattle.hol_term.specs.declared.TermId.{TermId}
use Rattle.hol_term.specs.declared.Variable.{Variable as AVariable}
use Rattle.hol_term.specs.Tables.{Trees, term_at}
use Rattle.hol_rules.specs.Views.{variable_view}
use Rattle.holide_sig.specs.declared.module.Module.{Module}
use Rattle.lp_spec.specs.Trees.{Tree}
use Rattle.lp_term.specs.declared.LpId.{LpId}
use Rattle.lp_term.specs.Tables.{Holds}
use Rattle.translate_spec.specs.Scopes.{set_term, set_proof}
use Rattle.sequent.specs.Params.{same_variable}
use Rattle.sequent.specs.Sequents.{same_id}
use Rattle.translate_proof.specs.declared.scope.Environment.{Environment}
use Rattle.translate_proof.specs.Environments.{Given, Represents, TellTypes, TellTerms, TellProofs, filled_terms, unproved}
use Rattle.translate_proof.specs.Rescoped.{with_scope}
use Rattle.translate_term.specs.declared.scope.Scope.{Scope}
use Rattle.translate_proof.proofs.TellLaws.{TellTerms-set, TellProofs-set}

pub Represents-set_term : (given : Given) (m : Module) (trees : Trees) (env next : Environment) (v : AVariable) (id : LpId) (x : Tree)
    → v.ty.0 < length trees.types → Holds m.table id.0 x → next.scope.types ≡ env.scope.types → next.proofs ≡ env.proofs
    → next.scope.terms ≡ insert_entry same_variable env.scope.terms v id → Represents given m trees env
    → Represents (with_scope given (set_term (variable_view trees v) x given.scope)) m trees next
Represents-set_term given m trees env next v id x k is a b e h = record {
  held = h.held;
  declared = h.declared;
  one_type = h.one_type;
  one_term = h.one_term;
  types = subst (λ t. TellTypes m.table t given.scope.types) (sym a) h.types;
  terms_told = subst
      (λ es. TellTerms trees.types m.table es (filled_terms given.symbols given.scope.types) (set_term (variable_view trees v) x given.scope).terms) (sym e)
      (TellTerms-set trees.types h.one_type m.table v id x env.scope.terms (filled_terms given.symbols given.scope.types) given.scope.terms k is h.terms_told);
  proofs = subst (λ t. TellProofs trees m.table t unproved given.scope.proofs) (sym b) h.proofs;
}

pub Represents-set_proof : (given : Given) (m : Module) (trees : Trees) (env next : Environment) (p : TermId) (id : LpId) (x : Tree) → p.0 < length trees.terms
    → Holds m.table id.0 x → next.scope ≡ env.scope → next.proofs ≡ insert_entry same_id env.proofs p id
    → Represents given m trees env → Represents (with_scope given (set_proof (term_at trees p.0) x given.scope)) m trees next
Represents-set_proof given m trees env next p id x k is a e h = record {
  held = h.held;
  declared = h.declared;
  one_type = h.one_type;
  one_term = h.one_term;
  types = subst (λ (s : Scope). TellTypes m.table s.types given.scope.types) (sym a) h.types;
  terms_told = subst (λ (s : Scope). TellTerms trees.types m.table s.terms (filled_terms given.symbols given.scope.types) given.scope.terms) (sym a)
      h.terms_told;
  proofs = subst (λ es. TellProofs trees m.table es unproved (set_proof (term_at trees p.0) x given.scope).proofs) (sym e)
      (TellProofs-set trees h.one_term m.table p id x env.proofs unproved given.scope.proofs k is h.proofs);
}
