-- Where each item of a run comes from: a symbol that was taken, a step that was made, or a type definition; and what its name is.
use Rattle.std.proofs.Common.{map, ◌≡◌, ℕ, ◌+◌, List, [], ◌∷◌, ◌++◌, length, Some, slice_get, inl, inr, refl, sym, ap, subst, ◌∙◌, append_assoc}
use Rattle.std.proofs.lemmas.List.{append-nil, length-append}
use Rattle.hol_spec.specs.Sequents.{Sequent}
use Rattle.hol_spec.specs.Rules.{Parameters}
use Rattle.hol_spec.specs.Symbols.{Symbol}
use Rattle.hol_spec.specs.Types.{HolType}
use Rattle.hol_spec.specs.Terms.{Term}
use Rattle.hol_spec.specs.Definitions.{Definition, TypeNames}
use Rattle.hol_spec.specs.declared.StepKind.{StepKind}
use Rattle.hol_spec.specs.Proofs.{Made, Step, symbols_of, steps_of, Accepted}
use Rattle.hol_spec.specs.Lists.{IsIn}
use Rattle.hol_laws.specs.Members.{IsIn-right}
use Rattle.hol_laws.specs.PlaceLaws.{slice_get-seam}
use Rattle.hol_proof_laws.specs.ProofGrowth.{symbols_of-append, steps_of-append}
use Rattle.translate_spec.specs.Rows.{has_row}
use Rattle.translate_spec.specs.Items.{Content, Item, says}
use Rattle.translate_spec.specs.MadeItems.{contents_of, type_contents, said_by, content_by, needed, sequents_at, premise_at, step_content, contents, numbered, items_after, items_of}
use Rattle.translate_spec.specs.Image.{symbol_name, type_definition_name, step_name, name_in}
use Rattle.translate_laws.specs.NeededSteps.{needed-row, needed-sequent}
use Rattle.translate_laws.specs.AcceptedItems.{symbol-said, says-step}
use Rattle.translate_laws.specs.SaidItems.{length-said_by_one, length-said_by}

-- an item comes from a symbol, from a type definition, or from a step whose number has a property
pub data Origin (run : Accepted) (made : List Made) (P : ℕ → Type 0) (z : Item) : Type 0 where
  of_symbol : (x : Symbol) → IsIn (symbols_of made) x → IsIn (contents_of x) z.content → z.name ≡ symbol_name x → Origin run made P z
  of_definition : (names : TypeNames) (c : HolType) (f : Term) (one : ℕ × Sequent)
      → IsIn (symbols_of made) (Symbol.defined (Definition.type_operator names c f)) → IsIn (type_contents names c f one) z.content
      → z.name ≡ type_definition_name z.content → Origin run made P z
  of_step : (i : ℕ) (x : Step) (kind : StepKind) (js : List ℕ) (ss : List Sequent) (g : Parameters) → P i → slice_get (steps_of made) i ≡ Some x
      → z.content ≡ content_by (has_row x.kind) kind js ss g x.sequent
      → z.name ≡ step_name run i x.kind → Origin run made P z

-- each of the items comes from a symbol, from a type definition, or from the next step
abbrev pub HaveOrigins : Accepted → List Made → List Item → List Item → Type 0
HaveOrigins run made before [] = Unit {0}
HaveOrigins run made before (z ∷ zs) = Origin run made (λ i. i ≡ length (said_by before)) z × HaveOrigins run made (before ++ z ∷ []) zs

module _ (run : Accepted) (made : List Made) where
  origins-append : (before xs ys : List Item) → HaveOrigins run made before xs → HaveOrigins run made (before ++ xs) ys → HaveOrigins run made before (xs ++ ys)
  origins-append before [] ys h k = subst (λ l. HaveOrigins run made l ys) (append-nil before) k
  origins-append before (x ∷ xs) ys h k =
      (h.0, origins-append (before ++ x ∷ []) xs ys h.1 (subst (λ l. HaveOrigins run made l ys) (sym (append_assoc before (x ∷ []) xs)) k))

  -- the contents of a symbol
  symbol-origins : (x : Symbol) → IsIn (symbols_of made) x → (n i : ℕ) (ps : List Item) (cs : List Content)
      → ((c : Content) → IsIn cs c → IsIn (contents_of x) c)
      → HaveOrigins run made ps (numbered (name_in run n (Made.symbol x)) i cs)
  symbol-origins x among n i ps [] f = tt
  symbol-origins x among n i ps (c ∷ cs) f = (
    Origin.of_symbol x among (f c (inl refl)) refl,
    symbol-origins x among n (i + 1) (ps ++ record { symbol = i; name = symbol_name x; content = c } ∷ []) cs (λ d k. f d (inr k)),
  )

  -- the contents of a type definition
  definition-origins : (names : TypeNames) (c : HolType) (f : Term) (k : ℕ) (one : ℕ × Sequent)
      → IsIn (symbols_of made) (Symbol.defined (Definition.type_operator names c f)) → (n i : ℕ) (ps : List Item) (cs : List Content)
      → ((d : Content) → IsIn cs d → IsIn (type_contents names c f one) d)
      → HaveOrigins run made ps (numbered (name_in run n (Made.type_definition names c f k)) i cs)
  definition-origins names c f k one among n i ps [] g = tt
  definition-origins names c f k one among n i ps (d ∷ cs) g = (
    Origin.of_definition names c f one among (g d (inl refl)) refl,
    definition-origins names c f k one among n (i + 1) (ps ++ record { symbol = i; name = type_definition_name d; content = d } ∷ []) cs
        (λ e l. g e (inr l)),
  )

  origins-after : (before xs : List Made) (ps : List Item) → made ≡ before ++ xs → length (said_by ps) ≡ length (steps_of before) → HaveOrigins run made [] ps
      → HaveOrigins run made [] (items_after (name_in run) ps xs)
  origins-after before [] ps whole long h = h
  origins-after before (Made.symbol x ∷ xs) ps whole long h =
      let n = length (said_by ps) in
      let new = numbered (name_in run n (Made.symbol x)) (length ps) (contents_of x) in
      let among : IsIn (symbols_of made) x =
      subst (λ m. IsIn (symbols_of m) x) (sym whole)
      (subst (λ l. IsIn l x) (sym (symbols_of-append before (Made.symbol x ∷ xs)))
      (IsIn-right (symbols_of before) (symbols_of (Made.symbol x ∷ xs)) x (inl refl))) in
      let none = symbol-said (name_in run n (Made.symbol x)) (length ps) x in
      let longer : length (said_by (ps ++ new)) ≡ length (steps_of (before ++ Made.symbol x ∷ [])) =
      length-said_by ps new ∙ ap (λ l. n + length l) none ∙ ap (λ k. k + 0) long
      ∙ sym (ap length (steps_of-append before (Made.symbol x ∷ [])) ∙ length-append (steps_of before) []) in
      origins-after (before ++ Made.symbol x ∷ []) xs (ps ++ new) (whole ∙ sym (append_assoc before (Made.symbol x ∷ []) xs)) longer
      (origins-append [] ps new h (symbol-origins x among n (length ps) ps (contents_of x) (λ c k. k)))
  origins-after before (Made.type_definition names c f k ∷ xs) ps whole long h =
      let n = length (said_by ps) in
      let m = Made.type_definition names c f k in
      let x = Symbol.defined (Definition.type_operator names c f) in
      let one = premise_at ps k in
      let new = numbered (name_in run n m) (length ps) (type_contents names c f one) in
      let among : IsIn (symbols_of made) x =
      subst (λ m. IsIn (symbols_of m) x) (sym whole)
      (subst (λ l. IsIn l x) (sym (symbols_of-append before (m ∷ xs))) (IsIn-right (symbols_of before) (symbols_of (m ∷ xs)) x (inl refl))) in
      let none : said_by new ≡ [] = refl in
      let longer : length (said_by (ps ++ new)) ≡ length (steps_of (before ++ m ∷ [])) =
      length-said_by ps new ∙ ap (λ l. n + length l) none ∙ ap (λ k. k + 0) long
      ∙ sym (ap length (steps_of-append before (m ∷ [])) ∙ length-append (steps_of before) []) in
      origins-after (before ++ m ∷ []) xs (ps ++ new) (whole ∙ sym (append_assoc before (m ∷ []) xs)) longer
      (origins-append [] ps new h (definition-origins names c f k one among n (length ps) ps (type_contents names c f one) (λ d i. i)))
  origins-after before (Made.step x ∷ xs) ps whole long h =
      let n = length (said_by ps) in
      let new = numbered (name_in run n (Made.step x)) (length ps) (contents ps (Made.step x)) in
      let at : slice_get (steps_of made) n ≡ Some x =
      ap (λ m. slice_get (steps_of m) n) whole ∙ ap (λ l. slice_get l n) (steps_of-append before (Made.step x ∷ xs))
      ∙ ap (slice_get (steps_of before ++ x ∷ steps_of xs)) long
      ∙ slice_get-seam (steps_of before) (steps_of xs) x in
      let z : Item = record { symbol = length ps; name = step_name run n x.kind; content = step_content ps x } in
      let y = needed (sequents_at ps x.premises) x in
      let js = map (λ k. (premise_at ps k).0) y.premises in
      let ss = sequents_at ps y.premises in
      let content : step_content ps x ≡ content_by (has_row x.kind) y.kind js ss y.parameters x.sequent =
      λ i. content_by (needed-row (sequents_at ps x.premises) x i) y.kind js ss y.parameters (needed-sequent (sequents_at ps x.premises) x i) in
      let longer : length (said_by (ps ++ new)) ≡ length (steps_of (before ++ Made.step x ∷ [])) =
      length-said_by ps new ∙ ap (λ k. n + k)
      (length-said_by_one z x.sequent (ap says content ∙ says-step (has_row x.kind) y.kind js ss y.parameters x.sequent)) ∙ ap (λ k. k + 1) long
      ∙ sym (ap length (steps_of-append before (Made.step x ∷ [])) ∙ length-append (steps_of before) (x ∷ [])) in
      origins-after (before ++ Made.step x ∷ []) xs (ps ++ new) (whole ∙ sym (append_assoc before (Made.step x ∷ []) xs)) longer
      (origins-append [] ps new h (Origin.of_step n x y.kind js ss y.parameters refl at content refl, tt {0}))

-- Each item has its origin
pub made-origins : (run : Accepted) (made : List Made) → HaveOrigins run made [] (items_of (name_in run) made)
made-origins run made = origins-after run made [] made [] refl refl (tt {0})
