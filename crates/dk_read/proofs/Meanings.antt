-- What an identifier means, by number.
use Rattle.std.proofs.Common.{inl, inr, ◌⊎◌, ◌≡◌, ℕ, suc, ◌-◌, ◌<◌, refl, sym, ap, subst, ◌∙◌, Bool, true, false, List, [], ◌∷◌, ◌++◌, length, reverse, Option, None, Some, Result, Ok, Err, IfOk, IfErr, position, arith}
use Rattle.std.specs.Prelude.{unwrap_or, option_map, if◌then◌else◌}
use Rattle.std.specs.Str.{bytes_eq}
use Rattle.std.proofs.lemmas.List.Quantifiers.{position-Some}
use Rattle.lp_spec.specs.declared.form.Form.{Form}
use Rattle.lp_spec.specs.Trees.{Tree, SortType, Var}
use Rattle.lp_spec.specs.Modules.{Declaration, signature, symbol}
use Rattle.lp_spec.specs.Reading.{Scope, variable_of, symbol_of}
use Rattle.lp_spec.specs.Tokens as tokens
use Rattle.lp_spec.specs.ReadingFaults as reading
use Rattle.lp_term.specs.declared.LpId.{LpId}
use Rattle.lp_term.specs.Tables.{Holds}
use Rattle.dk_read.specs.declared.faults.Stop.{Stop}
use Rattle.dk_read.specs.declared.faults.Stop.TheVariants as stop
use Rattle.dk_read.specs.declared.terms.Meaning.{Meaning}
use Rattle.dk_read.specs.declared.terms.Meaning.TheVariants as meaning
use Rattle.dk_read.specs.declared.terms.Frame.{Frame}
use Rattle.dk_read.specs.declared.terms.State.TheVariants as state
use Rattle.dk_read.specs.declared.parser.Parser.{Parser}
use Rattle.dk_read.specs.Names.{name_at, looked, bound, symbol_meaning, meaning_tree}
use Rattle.dk_read.specs.States.{Means, refused_by, OnRefusal, Breaks, MayBreak, state_in, state_of, head_of, IsSound, Becomes, IsUnwound, NoEnclosing, before, frames_in, frames_of, scope_of}
use Rattle.dk_read.proofs.Named.{bytes_eq-symm}
use Rattle.dk_read.proofs.Bytes.{OnRefusal-map}
use Rattle.dk_read.proofs.Places.{position_here, position_later, name_twice, name_new}

-- the meaning of a variable, by the binders round it
abbrev level_meaning : ℕ → Option ℕ → Meaning → Meaning
level_meaning d None w = w
level_meaning d (Some n) w = meaning.Binder (d - suc n)

one_more : (d : ℕ) (v : Option ℕ) (w : Meaning) → level_meaning d v w ≡ level_meaning (suc d) (option_map suc v) w
one_more d None w = refl
one_more d (Some n) w = ap meaning.Binder (omega arith)

module _ (ds : List Declaration) (x : List ℕ) where
  abbrev symbols : Meaning
  symbols = symbol_meaning (position (λ d. bytes_eq d.name x) ds)

  bound_by : (b : List ℕ) (scope : Scope) (t : Bool) → bytes_eq b x ≡ t → bound ds scope x ≡ level_meaning (length scope) (variable_of scope x) symbols
      → bound ds (b ∷ scope) x ≡ level_meaning (length (b ∷ scope)) (variable_of (b ∷ scope) x) symbols
  bound_by b scope true e h =
      ap (λ (c : Bool). if c then meaning.Binder (length scope) else bound ds scope x) (bytes_eq-symm x b ∙ e)
      ∙ ap meaning.Binder (omega arith)
      ∙ ap (λ v. level_meaning (length (b ∷ scope)) v symbols) (sym (position_here (λ y. bytes_eq y x) b scope e))
  bound_by b scope false e h =
      ap (λ (c : Bool). if c then meaning.Binder (length scope) else bound ds scope x) (bytes_eq-symm x b ∙ e)
      ∙ h ∙ one_more (length scope) (variable_of scope x) symbols
      ∙ ap (λ v. level_meaning (length (b ∷ scope)) v symbols) (sym (position_later (λ y. bytes_eq y x) b scope (variable_of scope x) e refl))

  bound-level : (scope : Scope) → bound ds scope x ≡ level_meaning (length scope) (variable_of scope x) symbols
  bound-level [] = refl
  bound-level (b ∷ scope) = bound_by b scope (bytes_eq b x) refl (bound-level scope)

meant_by : (m : List Declaration) (d : ℕ) (v s : Option ℕ) → ((n : ℕ) → v ≡ Some n → n < d) → meaning_tree m d (level_meaning d v (symbol_meaning s))
    ≡ reading.meant m v s
meant_by m d (Some n) s h = let l : n < d = h n refl in ap (λ i. Some (Var i)) (omega (arith, l))
meant_by m d None (Some s) h = refl
meant_by m d None None h = refl

-- the tree of what a name means inside binders is what the identifier means there
pub meaning-bound : (m : List Declaration) (scope : Scope) (x : List ℕ) → meaning_tree m (length scope) (bound (signature ++ m) scope x)
    ≡ reading.meant m (variable_of scope x) (symbol_of m x)
meaning-bound m scope x =
    ap (meaning_tree m (length scope)) (bound-level (signature ++ m) x scope)
    ∙ meant_by m (length scope) (variable_of scope x) (symbol_of m x) (λ n e. (position-Some (λ b. bytes_eq b x) scope n [] e).0)

-- so it is for the meaning that a reading has of it
pub meaning_is : (p : Parser) (n : ℕ) (w : Meaning) → IsSound p → w ≡ looked p.names (name_at p.names n)
    → reading.meaning (before p) (frames_of p) (name_at p.names n) ≡ meaning_tree (before p) p.binders w
meaning_is p n w s e =
    let x = name_at p.names n in
    sym (ap (λ d. meaning_tree (before p) d w) s.depth ∙ ap (meaning_tree (before p) (length (scope_of p))) (e ∙ s.meanings x)
    ∙ meaning-bound (before p) (scope_of p) x)

-- a symbol that a name means is declared
symbol_within : (ds : List Declaration) (x : List ℕ) (o : Option ℕ) (s : ℕ) → position (λ d. bytes_eq d.name x) ds ≡ o → meaning.Symbol s ≡ symbol_meaning o
    → s < length ds
symbol_within ds x None s e f = absurd (cc)
symbol_within ds x (Some k) s e f =
    let same : s ≡ k = cc in
    let l : k < length ds = (position-Some (λ d. bytes_eq d.name x) ds k (symbol [] SortType) e).0 in
    omega (arith, same, l)

bound_within : (ds : List Declaration) (scope : Scope) (x : List ℕ) (s : ℕ) → meaning.Symbol s ≡ bound ds scope x → s < length ds
bound_within ds [] x s e = symbol_within ds x (position (λ d. bytes_eq d.name x) ds) s refl e
bound_within ds (b ∷ scope) x s e = go (bytes_eq x b) e (bound_within ds scope x s)
  where
    go : (t : Bool) → meaning.Symbol s ≡ (if t then meaning.Binder (length scope) else bound ds scope x) → (meaning.Symbol s ≡ bound ds scope x → s < length ds)
        → s < length ds
    go true f k = absurd (cc)
    go false f k = k f

pub meaning_within : (p : Parser) (n s : ℕ) → IsSound p → meaning.Symbol s ≡ looked p.names (name_at p.names n) → s < length (signature ++ before p)
meaning_within p n s h e = bound_within (signature ++ before p) (scope_of p) (name_at p.names n) s (e ∙ h.meanings (name_at p.names n))

-- a tree that was made for what is meant
pub means_made : (means : Option Tree) (place : ℕ) (name : List ℕ) (p : Parser) (t : Tree) (r : Result LpId Stop) → means ≡ Some t
    → IfOk r (λ id. Holds p.module.table id.0 t) → IfErr r (λ e. e ≡ stop.Memory) → Means means place name p r
means_made means place name p t (Ok id) e h k = e ∙ ap Some (sym (ap (λ o. unwrap_or o SortType) h))
means_made means place name p t (Err f) e h k = subst
    (λ s. OnRefusal (refused_by p.names s) (λ r. (means ≡ None) × (r ≡ reading.refusal place (reading.UnknownName name)))) (sym k) tt

-- the name of a declaration, where nothing is open
symbol_none : (o : Option ℕ) → meaning.Nothing ≡ symbol_meaning o → o ≡ None
symbol_none None e = refl
symbol_none (Some s) e = absurd (cc)

symbol_some : (o : Option ℕ) (s : ℕ) → meaning.Symbol s ≡ symbol_meaning o → o ≡ Some s
symbol_some None s e = absurd (cc)
symbol_some (Some r) s e = cc

no_binder : (o : Option ℕ) (d : ℕ) → meaning.Binder d ≡ symbol_meaning o → ⊥
no_binder None d e = absurd (cc)
no_binder (Some r) d e = absurd (cc)

-- where nothing is open
pub closed_scope : (p : Parser) → p.frames.items ≡ [] → scope_of p ≡ []
closed_scope p e = ap (λ (l : List Frame). reading.scope_of (frames_in p.module.table p.names (reverse l))) e

closed_meaning : (p : Parser) (n : ℕ) (w : Meaning) → IsSound p → p.frames.items ≡ [] → w ≡ looked p.names (name_at p.names n) → w
    ≡ symbol_meaning (symbol_of (before p) (name_at p.names n))
closed_meaning p n w s e f = f ∙ s.meanings (name_at p.names n) ∙ ap (λ c. bound (signature ++ before p) c (name_at p.names n)) (closed_scope p e)

pub names_new : (p : Parser) (form : Form) (place n : ℕ) → IsSound p → p.frames.items ≡ [] → meaning.Nothing ≡ looked p.names (name_at p.names n)
    → reading.names (before p) form place (name_at p.names n) ≡ reading.Goes (before p) (reading.AfterName form (name_at p.names n))
names_new p form place n s e f = name_new (before p) form place (name_at p.names n) (symbol_none _ (closed_meaning p n meaning.Nothing s e f))

pub names_twice : (p : Parser) (form : Form) (place n s : ℕ) → IsSound p → p.frames.items ≡ [] → meaning.Symbol s ≡ looked p.names (name_at p.names n)
    → Becomes (reading.names (before p) form place (name_at p.names n)) p (Err (stop.NameTwice place n))
names_twice p form place n s sound e h =
    name_twice (before p) form place (name_at p.names n) s (symbol_some _ s (closed_meaning p n (meaning.Symbol s) sound e h))

pub names_bound : (p : Parser) (n d : ℕ) → IsSound p → p.frames.items ≡ [] → meaning.Binder d ≡ looked p.names (name_at p.names n) → ⊥
names_bound p n d sound e h = no_binder _ d (closed_meaning p n (meaning.Binder d) sound e h)

-- where nothing encloses
pub encloses_stops : (m : List Declaration) (head : reading.Head) (frames : List reading.Frame) (t : Tree) (p : ℕ) → IsUnwound frames → NoEnclosing frames
    → reading.encloses m head frames t p ≡ reading.stops p reading.BadText
encloses_stops m head [] t p h k = refl
encloses_stops m head (reading.Domain name ∷ frames) t p h k = refl
encloses_stops m head (reading.Enclosing f ∷ frames) t p h k = absurd k
encloses_stops m head (reading.Product name a ∷ frames) t p h k = absurd h
encloses_stops m head (reading.Abstraction name a ∷ frames) t p h k = absurd h

-- a name that a symbol or a binder has
pub names_taken : (p : Parser) (form : Form) (place n : ℕ) (w : Meaning) → IsSound p → p.frames.items ≡ [] → w ≡ looked p.names (name_at p.names n)
    → ((x : ℕ) × (w ≡ meaning.Symbol x)) ⊎ ((x : ℕ) × (w ≡ meaning.Binder x))
    → Becomes (reading.names (before p) form place (name_at p.names n)) p (Err (stop.NameTwice place n))
names_taken p form place n w sound e h (inl s) = names_twice p form place n s.0 sound e (sym s.1 ∙ h)
names_taken p form place n w sound e h (inr b) = absurd (names_bound p n b.0 sound e (sym b.1 ∙ h))

-- no token comes after an identifier that begins a term and means nothing
stuck_by : (m : List Declaration) (h : reading.Head) (frames : List reading.Frame) (first place : ℕ) (name : List ℕ) (r : reading.Refusal)
    → (reading.meaning m frames name ≡ None) × (r ≡ reading.refusal first (reading.UnknownName name))
    → reading.broken (reading.Goes m (reading.AfterFirst h frames first name)) place ≡ r
stuck_by m h frames first place name r means = ap (λ o. reading.broken_after first name o place) means.0 ∙ sym means.1

pub stuck_after : (p q : Parser) (first place n : ℕ) (f : Stop) → p.state ≡ state.AfterFirst first n
    → Means (reading.meaning (before p) (frames_of p) (name_at p.names n)) first (name_at p.names n) q (Err f)
    → Breaks (reading.broken (reading.Goes (before p) (state_of p)) place) q.names f
stuck_after p q first place n f e means =
    subst (λ s. Breaks (reading.broken (reading.Goes (before p) (state_in p s)) place) q.names f) (sym e)
    (OnRefusal-map (refused_by q.names f) (λ r h. stuck_by (before p) (head_of p) (frames_of p) first place (name_at p.names n) r h) means)

-- and no word does, whichever it is
pub any_word_after : (p q : Parser) (first place n : ℕ) (f : Stop) → p.state ≡ state.AfterFirst first n
    → Means (reading.meaning (before p) (frames_of p) (name_at p.names n)) first (name_at p.names n) q (Err f)
    → MayBreak (reading.any_word (before p) (state_of p) place) q.names (Some f)
any_word_after p q first place n f e means =
    subst (λ s. MayBreak (reading.any_word (before p) (state_in p s) place) q.names (Some f)) (sym e)
    (OnRefusal-map (refused_by q.names f) (λ r h. ap (reading.unknown first (name_at p.names n)) h.0 ∙ ap Some (sym h.1)) means)

-- no token comes after one that means nothing, whichever it is
pub after_unknown : (m : List Declaration) (h : reading.Head) (frames : List reading.Frame) (first place : ℕ) (name : List ℕ) (token : tokens.Token)
    (q : Parser) (f : Stop) → Means (reading.meaning m frames name) first name q (Err f)
    → Becomes (reading.goes_on m h frames first name (reading.meaning m frames name) place token) q (Err f)
after_unknown m h frames first place name token q f means =
    OnRefusal-map (refused_by q.names f) (λ r k. ap (λ o. reading.goes_on m h frames first name o place token) k.0 ∙ ap reading.Stops (sym k.1)) means
