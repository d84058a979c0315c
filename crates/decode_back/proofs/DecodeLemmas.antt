-- From the parts of a product to what its type stands for.
use Rattle.std.proofs.Common.{◌≡◌, ℕ, ◌<◌, List, Option, Some, None, slice_get, sym, ap, subst, ◌∙◌, arith}
use Rattle.std.specs.Option.{option_map}
use Rattle.std.proofs.lemmas.Option.{slice_get-map}
use Rattle.std.specs.Prelude.{MatchOption, min, ◌^◌, ◌-◌}
use Rattle.hol_spec.specs.ClosedForm.{ClosedSequent}
use Rattle.lp_spec.specs.Trees.{Tree, size}
use Rattle.lp_spec.specs.Modules.{Declaration}
use Rattle.lp_term.specs.Tables.{tree_at}
use Rattle.holide_sig.specs.declared.decls.Decl.{Decl}
use Rattle.holide_sig.specs.declared.module.Module.{Module}
use Rattle.holide_sig.specs.Modules.{declaration_in, declarations_of}
use Rattle.translate_spec.specs.Enc.{Enc}
use Rattle.sequent.specs.declared.closed.Closed.{Closed}
use Rattle.sequent.specs.Closed.{closed_view}
use Rattle.decode_spec.specs.Decode.{parts, proof_part}
use Rattle.decode_laws.specs.OptionLaws.{some-injective}
use Rattle.decode_laws.specs.ClosedFormTestLaws.{IsOpen-IsClosedForm, IsClosedForm-IsOpen}
use Rattle.decode_laws.specs.DecodingLaws.{parts-Enc, Enc-parts}
use Rattle.decode_laws.specs.SizeBound.{greatest_tree, Enc-size}
use Rattle.decode_back.specs.Walks.{parameter_name}
use Rattle.decode_back.specs.SequentWalks.{IsSequentFound}
use Rattle.decode_back.proofs.NameLemmas.{parameter_name-apart}
use Rattle.decode_back.proofs.PartsLemmas.{sequent_from-of}

module _ (d : List Declaration) (A : Tree) where
  -- what an answer is to say
  abbrev pub Answers : Option Closed → Type 0
  Answers found = MatchOption found ((s : ClosedSequent) → Enc d s A → ⊥) (λ closed. Enc d (closed_view closed) A)

  -- a tree with too many nodes
  pub too_large_tree : greatest_tree < min (size A) (2 ^ 128 - 1) → (s : ClosedSequent) → Enc d s A → ⊥
  too_large_tree l s h = omega (arith, l, Enc-size parameter_name parameter_name-apart d s A h)

  -- a product that doesn't end in proofs
  pub no_proof_end : proof_part (parts A).end ≡ None → (s : ClosedSequent) → Enc d s A → ⊥
  no_proof_end e s h =
      let o = sequent_from-of d (parts A) s (Enc-parts d A s h) in
      let f : ◌≡◌ {A = Option Tree} None (Some o.C) = sym e ∙ o.end in
      absurd (cc)

  pub parts-answer : (found : Option Closed) → IsSequentFound d (parts A) found → Answers found
  parts-answer None h = λ s enc. h s (Enc-parts d A s enc) (IsClosedForm-IsOpen parameter_name parameter_name-apart s enc.closed)
  parts-answer (Some closed) h =
      subst (λ s. Enc d s A) (sym h.3) (parts-Enc d A h.0 h.1 (IsOpen-IsClosedForm parameter_name parameter_name-apart h.0 h.2))

-- what is found of a declaration's number is found of the declaration
pub declaration-answer : (source : Module) (i : ℕ) (x : Decl) (found : Option Closed) → slice_get source.decls i ≡ Some x
    → Answers (declarations_of source) (tree_at source.table x.ty.0) found
    → (d : Declaration) → slice_get (declarations_of source) i ≡ Some d → Answers (declarations_of source) d.ty found
declaration-answer source i x found e h d f =
    let same : declaration_in source.table x ≡ d =
    some-injective (sym (slice_get-map (declaration_in source.table) source.decls i ∙ ap (option_map (declaration_in source.table)) e) ∙ f) in
    subst (λ (y : Declaration). Answers (declarations_of source) y.ty found) same h
