-- Each body of a run's module is typed at its declared type over the declarations before it, and each theorem after the two lemmas is that
-- of a step: it is named by the step, and its type stands for what the step says.
use Rattle.std.proofs.Common.{◌≡◌, ℕ, zero, suc, ◌≤◌, List, [], ◌∷◌, ◌++◌, length, take, Bool, true, false, Option, Some, None, slice_get, refl, sym, ap, subst, ◌∙◌, append_assoc, arith}
use Rattle.std.specs.Prelude.{nat_eq, codes}
use Rattle.std.specs.List.{AllByRecursion, position_or_len}
use Rattle.std.proofs.lemmas.List.{append-nil}
use Rattle.hol_spec.specs.Sequents.{Sequent}
use Rattle.hol_spec.specs.Rules.{Parameters}
use Rattle.hol_spec.specs.ClosedForm.{closed_form}
use Rattle.hol_spec.specs.Proofs.{Step, symbols_of, steps_of, Accepted}
use Rattle.hol_spec.specs.Lists.{IsIn}
use Rattle.hol_spec.specs.declared.StepKind.{StepKind}
use Rattle.hol_laws.specs.Members.{All-at}
use Rattle.article_spec.specs.Run.{accepted, Run}
use Rattle.article_spec.specs.SoundRuns.{IsSoundRun}
use Rattle.article_laws.specs.SoundSteps.{runs_are_sound}
use Rattle.lp_spec.specs.declared.form.Form.{Form}
use Rattle.lp_spec.specs.declared.form.Form.TheVariants.{Symbol, Def, Thm}
use Rattle.lp_spec.specs.Trees.{Tree}
use Rattle.lp_spec.specs.Modules.{Declaration}
use Rattle.lp_spec.specs.Lemmas.{lemmas}
use Rattle.lp_spec.specs.Typing.{Typed, IsBodyOf, IsTypedAfter, AreTypedAfter}
use Rattle.translate_spec.specs.Rows.{has_row}
use Rattle.translate_spec.specs.Scopes.{SymbolMap}
use Rattle.translate_spec.specs.Enc.{Enc}
use Rattle.translate_spec.specs.Items.{Content, operator, constant, defined_constant, type_operator, type_abstraction, type_representation, unproved, step, Item, says, declaration_of}
use Rattle.translate_spec.specs.MadeItems.{content_by}
use Rattle.translate_spec.specs.Reach.{renumbered_content}
use Rattle.translate_spec.specs.Image.{is_one_of, name_in, image}
use Rattle.lp_spec.specs.Numerals.{numeral}
use Rattle.image_laws.specs.AcceptedRuns.{IsCarried, runs_are_carried}
use Rattle.image_laws.specs.ExportOrder.{symbol-silent}
use Rattle.image_laws.specs.Named.{HasNames, IsStepName, at-place}
use Rattle.image_laws.specs.Origins.{Origin, made-origins}
use Rattle.image_laws.specs.RunModules.{IsItemName, content-says, item_name-is, declaration-name}
use Rattle.image_laws.specs.Standing.{Always, origins-all, symbols, number, declared, keep, items, item-stands, each-declaration}

-- the name of the theorem of a step: `E` and its place among the exports, or `L` or `T` and its number
pub data IsTheoremName (run : Accepted) (i : ℕ) (name : List ℕ) : Type 0 where
  an_export : (k : ℕ) → slice_get run.exports k ≡ Some i → name ≡ codes "E" ++ numeral k → IsTheoremName run i name
  a_law : is_one_of i run.exports ≡ false → name ≡ codes "L" ++ numeral i → IsTheoremName run i name
  a_theorem : is_one_of i run.exports ≡ false → name ≡ codes "T" ++ numeral i → IsTheoremName run i name

-- a declaration is the theorem of a step: its name, and that its type stands for the closed form of what the step says
pub record IsStepTheorem (run : Accepted) (d : Declaration) : Type 0 where
  pub number : ℕ
  pub step : Step
  pub at : slice_get (steps_of run.made) number ≡ Some step
  pub name : IsTheoremName run number d.name
  pub says : Enc (image run) (closed_form step.sequent) d.ty

-- each body is typed at its declared type over the declarations before it, and each theorem after the two lemmas is that of a step
abbrev pub HaveTypedBodies : List Declaration → Type 0
HaveTypedBodies m = (i : ℕ) (d : Declaration) (body : Tree) → slice_get m i ≡ Some d → d.body ≡ Some body → Typed (take i m) [] body d.ty

abbrev pub AreStepTheorems : Accepted → Type 0
AreStepTheorems run = (i : ℕ) (d : Declaration) → slice_get (image run) i ≡ Some d → length lemmas ≤ i → d.form ≡ Thm → IsStepTheorem run d

-- each declaration is typed over those before it
typed-after : (before ds : List Declaration) → AreTypedAfter before ds → (i : ℕ) (d : Declaration) → slice_get ds i ≡ Some d
    → IsTypedAfter (before ++ take i ds) d
typed-after before [] h i d e = absurd (cc)
typed-after before (x ∷ ds) h zero d e =
    let same : x ≡ d = cc in subst (IsTypedAfter (before ++ [])) same (subst (λ l. IsTypedAfter l x) (sym (append-nil before)) h.0)
typed-after before (x ∷ ds) h (suc i) d e = subst (λ l. IsTypedAfter l d) (append_assoc before (x ∷ []) (take i ds))
    (typed-after (before ++ x ∷ []) ds h.1 i d e)

body-typed : (m : List Declaration) (f : Form) (o : Option Tree) (A body : Tree) → IsBodyOf m f o A → o ≡ Some body → Typed m [] body A
body-typed m Symbol o A body h e = let none : None ≡ Some body = sym h ∙ e in absurd (cc)
body-typed m Def None A body h e = absurd h
body-typed m Def (Some t) A body h e = let same : t ≡ body = cc in subst (λ t. Typed m [] t A) same h
body-typed m Thm None A body h e = absurd h
body-typed m Thm (Some t) A body h e = let same : t ≡ body = cc in subst (λ t. Typed m [] t A) same h

-- a theorem says something, and is no assumption
theorem-says : (symbols : SymbolMap) (name : List ℕ) (number : ℕ → ℕ) (c : Content) → (declaration_of symbols name (renumbered_content number c)).form ≡ Thm
    → says c ≡ None → ⊥
theorem-says symbols name number (operator n k) f e = absurd (cc)
theorem-says symbols name number (constant n a) f e = absurd (cc)
theorem-says symbols name number (defined_constant n a t) f e = absurd (cc)
theorem-says symbols name number (type_operator names c u j one) f e = absurd (cc)
theorem-says symbols name number (type_abstraction names c u j one) f e = absurd (cc)
theorem-says symbols name number (type_representation names c u j one) f e = absurd (cc)
theorem-says symbols name number (unproved s) f e = absurd (cc)
theorem-says symbols name number (step kind js ss g s) f e = absurd (cc)

theorem-row : (symbols : SymbolMap) (name : List ℕ) (number : ℕ → ℕ) (b : Bool) (kind : StepKind) (js : List ℕ) (ss : List Sequent) (g : Parameters)
    (s : Sequent)
    → (declaration_of symbols name (renumbered_content number (content_by b kind js ss g s))).form ≡ Thm → b ≡ true
theorem-row symbols name number true kind js ss g s f = refl
theorem-row symbols name number false kind js ss g s f = absurd (cc)

theorem-name : (run : Accepted) (i : ℕ) (kind : StepKind) (name : List ℕ) → has_row kind ≡ true → IsStepName run i kind name → IsTheoremName run i name
theorem-name run i kind name row (IsStepName.an_export e n) = IsTheoremName.an_export (position_or_len (nat_eq i) run.exports) (at-place i run.exports e) n
theorem-name run i kind name row (IsStepName.an_assumption e f k n) = let r : true ≡ false = sym row ∙ ap has_row k in absurd (cc)
theorem-name run i kind name row (IsStepName.a_law e k n) = IsTheoremName.a_law e n
theorem-name run i kind name row (IsStepName.a_theorem e r n) = IsTheoremName.a_theorem e n

module _ (run : Accepted) (named : HasNames run) (sound : IsSoundRun run) (carried : IsCarried (name_in run) run) where
  abbrev origins : AllByRecursion (Origin run run.made Always) (items run named sound)
  origins = origins-all run [] (items run named sound) (made-origins run run.made)

  -- The theorem of a kept item
  item-theorem : (z : Item) → IsIn (items run named sound) z → keep run named sound z.symbol ≡ true → (declared run named sound z).form ≡ Thm
      → IsStepTheorem run (declared run named sound z)
  item-theorem z i kept f = by_name
      (item_name-is run named sound.assumptions Always z (All-at (Origin run run.made Always) (items run named sound) z origins i))
    where
      by_name : IsItemName run Always z → IsStepTheorem run (declared run named sound z)
      by_name (IsItemName.by_symbol h) = absurd
          (theorem-says (symbols run named sound) z.name (number run named sound) z.content f (symbol-silent (symbols_of run.made) z.content z.name h))
      by_name (IsItemName.by_step k x p at told name) =
          let row =
          theorem-row (symbols run named sound) z.name (number run named sound) (has_row x.kind) told.kind told.premises told.sequents told.parameters x.sequent
          (ap (λ c. (declaration_of (symbols run named sound) z.name (renumbered_content (number run named sound) c)).form) (sym told.is) ∙ f) in
          record {
            number = k;
            step = x;
            at = at;
            name = subst (IsTheoremName run k) (sym (declaration-name (symbols run named sound) z.name (renumbered_content (number run named sound) z.content)))
                (theorem-name run k x.kind z.name row name);
            says = item-stands run named sound carried.in_order origins z i kept x.sequent (content-says x z.content told);
          }

  theorems-of_steps : AreStepTheorems run
  theorems-of_steps =
      each-declaration run named sound carried.in_order origins (λ i d. length lemmas ≤ i → d.form ≡ Thm → IsStepTheorem run d) (λ l. absurd (omega (arith, l)))
      (λ l. absurd (omega (arith, l)))
      (λ z i kept k at l f. item-theorem z i kept f)

-- The law: the bodies of the module of an accepted run are typed, and where the run has names its theorems are those of steps
abbrev pub BodiesTyped : Type 0
BodiesTyped = (articles : List (List ℕ)) (run : Accepted) → Run articles (accepted run) → HaveTypedBodies (image run) × (HasNames run → AreStepTheorems run)

pub bodies_typed : BodiesTyped
bodies_typed articles run r =
    let carried = runs_are_carried (name_in run) articles run r in (
      λ i d body at e. body-typed (take i (image run)) d.form d.body d.ty body (typed-after [] (image run) carried.typed i d at).body e,
      λ named. theorems-of_steps run named (runs_are_sound articles run r) carried,
    )
