-- An item that is kept: the module tells what it mentions, its declaration may follow, and with it what is declared is kept.
use Rattle.std.proofs.Common.{◌≡◌, ℕ, sym, ap, ◌∙◌, subst, append_assoc, List, [], ◌∷◌, ◌++◌, map}
use Rattle.std.specs.List.{AllByRecursion}
use Rattle.std.proofs.lemmas.List.{map-append}
use Rattle.article_spec.specs.SoundRuns.{IsSoundRun}
use Rattle.hol_spec.specs.DefinitionLists.{ConstantPairs, constants_put}
use Rattle.hol_spec.specs.Proofs.{Accepted}
use Rattle.hol_spec.specs.Rules.{Parameters}
use Rattle.hol_spec.specs.Sequents.{Sequent}
use Rattle.hol_spec.specs.Terms.{Term, Variable}
use Rattle.hol_rules.specs.Kept.{Kept}
use Rattle.holide_sig.specs.declared.module.Module.{Module}
use Rattle.holide_sig.specs.Modules.{declarations_of}
use Rattle.lp_spec.specs.Lemmas.{lemmas}
use Rattle.lp_spec.specs.ModuleOrder.{MayFollow}
use Rattle.lp_spec.specs.Modules.{Declaration, signature}
use Rattle.translate_spec.specs.Items.{Content, operator, constant, defined_constant, type_operator, type_abstraction, type_representation, unproved, step, Item, declaration, declaration_of, module_of}
use Rattle.translate_spec.specs.Scopes.{SymbolMap}
use Rattle.translate_proof.specs.Told as rule
use Rattle.image_laws.specs.Named.{HasNames}
use Rattle.image_items_laws.specs.MadeInOrder.{next-follows}
use Rattle.image_items_laws.specs.Making.{kept_of, kept_symbols, declared}
use Rattle.image_items_laws.specs.NextTells.{next-tells}
use Rattle.image_items_laws.specs.Told.{TellsContent, TellsGiven, TellsSequent}
use Rattle.translate_term.specs.Told.{TellsTerm}
use Rattle.translate_rule.specs.declared.items.Item.{Item as AnItem}
use Rattle.translate_rule.specs.ItemViews.{item_name, item_content}
use Rattle.translate_rule.specs.Building.{AreDeclared, IsKeptItem}
use Rattle.translate_rule.specs.Steps as steps

-- what a step asks of what is told
module _ (ds : List Declaration) (symbols : SymbolMap) where
  pub told-sequent : (s : Sequent) → TellsSequent ds symbols s → rule.TellsSequent ds symbols s
  told-sequent s h = record { hypotheses = h.hypotheses; conclusion = h.conclusion }

  told-sequents : (ss : List Sequent) → AllByRecursion (TellsSequent ds symbols) ss → AllByRecursion (rule.TellsSequent ds symbols) ss
  told-sequents [] h = tt
  told-sequents (s ∷ ss) h = (told-sequent s h.0, told-sequents ss h.1)

  told-pairs : (pairs : ConstantPairs) → AllByRecursion (λ (p : Variable × Term). TellsTerm ds symbols p.1) (constants_put pairs)
      → steps.TellsGiven ds symbols (Parameters.constants pairs)
  told-pairs [] h = tt
  told-pairs (p ∷ ps) h = (h.0, told-pairs ps h.1)

  told-given : (given : Parameters) → TellsGiven ds symbols given → steps.TellsGiven ds symbols given
  told-given Parameters.nothing h = tt
  told-given (Parameters.term t) h = tt
  told-given (Parameters.variable v) h = tt
  told-given (Parameters.substitution s t) h = tt
  told-given (Parameters.sequent s) h = tt
  told-given (Parameters.constant n t) h = tt
  told-given (Parameters.constants pairs) h = told-pairs pairs h
  told-given (Parameters.type_operator names version) h = tt

  pub told-content : (c : Content) → TellsContent ds symbols c → steps.TellsContent ds symbols c
  told-content (operator n k) h = tt
  told-content (constant n a) h = tt
  told-content (defined_constant n a t) h = tt
  told-content (type_operator names c f j one) h = tt
  told-content (type_abstraction names c f j one) h = tt
  told-content (type_representation names c f j one) h = tt
  told-content (unproved s) h = told-sequent s h
  told-content (step kind js ss given s) h = (told-sequent s h.0, told-sequents ss h.1, told-given given h.2)

-- a module of one item more
module-more : (symbols : SymbolMap) (before : List Item) (x : Item) → module_of symbols (before ++ x ∷ []) ≡ module_of symbols before
    ++ declaration symbols x ∷ []
module-more symbols before x =
    ap (λ l. lemmas ++ l) (map-append (declaration symbols) before (x ∷ []))
    ∙ sym (append_assoc lemmas (map (declaration symbols) before) (declaration symbols x ∷ []))

module _ (run : Accepted) (sound : IsSoundRun run) (named : HasNames run) (items grown : List Item) (target : Module) (so_far : AreDeclared run items target)
    (k : Kept) (numbers : List ℕ) (one : AnItem) (kept : IsKeptItem run items grown k numbers one) where
  abbrev symbols : SymbolMap
  symbols = kept_symbols run

  abbrev content : Content
  content = item_content k numbers one

  -- It tells what the item mentions
  pub next-told : TellsContent (declarations_of target) symbols content
  next-told =
      subst (TellsContent (declarations_of target) symbols) kept.content
      (subst (λ ds. TellsContent ds symbols kept.x.content) (sym so_far.declared)
      (next-tells run sound named (kept_of run items) kept.next.after kept.x kept.next.whole))

  -- the declaration of the item, where it is what the item's is
  abbrev pub IsItems : Declaration → Type 0
  IsItems d = (tables : SymbolMap) → TellsContent (declarations_of target) tables content → d ≡ declaration_of tables (item_name run one) content

  next-declaration : (d : Declaration) → IsItems d → d ≡ declaration symbols kept.x
  next-declaration d is = is symbols next-told ∙ (λ i. declaration_of symbols (sym kept.name i) (sym kept.content i))

  -- It may follow
  pub next-may-follow : (ds : List Declaration) (d : Declaration) → ds ≡ declarations_of target → IsItems d → MayFollow (signature ++ ds) d
  next-may-follow ds d same is =
      subst (λ l. MayFollow (signature ++ l) d) (sym (same ∙ so_far.declared))
      (subst (MayFollow (signature ++ declared run (kept_of run items))) (sym (next-declaration d is))
      (next-follows run sound named (kept_of run items) kept.next.after kept.x kept.next.whole))

  -- And then the items so far are declared with it
  pub next-declared : (ds es : List Declaration) (d : Declaration) → ds ≡ declarations_of target → IsItems d → es ≡ ds ++ d ∷ [] → es
      ≡ declared run (kept_of run grown)
  next-declared ds es d same is more =
      more ∙ (λ i. (same ∙ so_far.declared) i ++ next-declaration d is i ∷ []) ∙ sym (module-more symbols (kept_of run items) kept.x)
      ∙ ap (declared run) (sym kept.next.kept)

-- what is made with these numbers
pub made-with : (run : Accepted) (target : Module) (k : Kept) (seen numbers : List ℕ) (one : AnItem) (d : Declaration) → seen ≡ numbers
    → ((tables : SymbolMap) → TellsContent (declarations_of target) tables (item_content k seen one) → d
    ≡ declaration_of tables (item_name run one) (item_content k seen one))
    → (tables : SymbolMap) → TellsContent (declarations_of target) tables (item_content k numbers one) → d
    ≡ declaration_of tables (item_name run one) (item_content k numbers one)
made-with run target k seen numbers one d e is =
    subst (λ ns. (tables : SymbolMap) → TellsContent (declarations_of target) tables (item_content k ns one) → d
    ≡ declaration_of tables (item_name run one) (item_content k ns one)) e is
