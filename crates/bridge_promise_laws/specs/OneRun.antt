-- Files that are told have one outcome, and their last article one version; so one answer is due that says what one article can say of them.
use Rattle.std.proofs.Common.{◌≡◌, ℕ, true, false, List, [], ◌∷◌, ◌++◌, map, Option, None, Some, IsTrue, refl, sym, ap, subst, ◌∙◌, arith, ⊎_elim}
use Rattle.std.specs.Prelude.{is_some}
use Rattle.bridge_base.specs.Outside.{Files}
use Rattle.common.specs.declared.faults.Kind.{Kind}
use Rattle.hol_spec.specs.Proofs.{Accepted}
use Rattle.hol_spec.specs.declared.Version.{Version}
use Rattle.article_spec.specs.Lines.{Lines}
use Rattle.article_spec.specs.Run.{Outcome, machine, accepted, refused_at, Run}
use Rattle.article_laws.specs.ReadingLaws.{one_reading}
use Rattle.article_laws.specs.RunLaws.{one_outcome}
use Rattle.article_write_spec.specs.Versions.{version_of, IsLastVersion, no_article, last}
use Rattle.bridge_spec.specs.Answers.{RunsTo, IsRunOfVersion, articles}
use Rattle.bridge_spec.specs.Articles.{IsWritable, IsUnwritable}
use Rattle.bridge_spec.specs.Consequences.{RunsToVersion, IsDueOfArticle}
use Rattle.bridge_spec.specs.declared.status.Status.{Status}
use Rattle.bridge_spec.specs.declared.status.Status.TheVariants.{Done, Refused, Usage, ReadFault, WriteFault, Memory, DkRefused, IllTyped, OverBudget, NotSequent, Unwritable}

-- Files that are told have one outcome.
pub RunsTo-unique : (told : Option Files) (names : List (List ℕ)) (a b : Outcome) → IsTrue (is_some told) → RunsTo told names a → RunsTo told names b → a ≡ b
RunsTo-unique None names a b h p q = absurd (cc)
RunsTo-unique (Some files) names a b h p q =
    let one = one_outcome machine (articles files names) in
    one.only a (subst (λ texts. Run texts a) p.read p.runs) ∙ sym (one.only b (subst (λ texts. Run texts b) q.read q.runs))

-- the last of some articles, or what stands before them
abbrev last_or : List ℕ → List (List ℕ) → List ℕ
last_or before [] = before
last_or before (a ∷ rest) = last_or a rest

last_or-append : (before : List ℕ) (earlier : List (List ℕ)) (bytes : List ℕ) → last_or before (earlier ++ bytes ∷ []) ≡ bytes
last_or-append before [] bytes = refl
last_or-append before (a ∷ earlier) bytes = last_or-append a earlier bytes

-- there is no last of none
none-append : {X : Type 0} (earlier : List (List ℕ)) (bytes : List ℕ) → [] ≡ earlier ++ bytes ∷ [] → X
none-append [] bytes e = absurd (cc)
none-append (a ∷ earlier) bytes e = absurd (cc)

-- Some articles have one last version.
pub IsLastVersion-unique : {texts : List (List ℕ)} {v w : Version} → IsLastVersion texts v → IsLastVersion texts w → v ≡ w
IsLastVersion-unique no_article no_article = refl
IsLastVersion-unique no_article (last bytes commands end earlier e l is) = none-append earlier bytes e
IsLastVersion-unique (last bytes commands end earlier e l is) no_article = none-append earlier bytes e
IsLastVersion-unique (last bytes commands end earlier e l is) (last others commands2 end2 earlier2 e2 l2 is2) =
    let same : bytes ≡ others = sym (last_or-append [] earlier bytes) ∙ ap (last_or []) (sym e ∙ e2) ∙ last_or-append [] earlier2 others in
    let r = one_reading bytes in
    let one = (r.only commands end l).0 in
    let two = (r.only commands2 end2 (subst (λ text. Lines text commands2 end2) (sym same) l2)).0 in
    is ∙ ap (λ cs. version_of (map (λ c. c.item) cs)) (one ∙ sym two) ∙ sym is2

-- a run that was read to its end is one that the files have
read-RunsToVersion : {told : Option Files} {names : List (List ℕ)} {version : Version} {run : Accepted} → IsRunOfVersion told names version run
    → RunsToVersion told names version run
read-RunsToVersion h = record { to = record { texts = h.of.texts; read = h.of.read; runs = h.of.runs }; last = h.last }

-- an article that can be written cannot be unwritable
writable-or-not : (version : Version) (run : Accepted) → IsWritable version run → IsUnwritable version run → ⊥
writable-or-not version run h not =
    ⊎_elim (λ g. let two : true ≡ false = sym h.fits ∙ g in absurd (cc)) (λ long. let short = h.short in absurd (omega (arith, short, long))) not

module _ (told : Option Files) (names : List (List ℕ)) (tells : IsTrue (is_some told)) where
  -- the run, and the version of the last article
  one_run : (v w : Version) (a b : Accepted) → RunsToVersion told names v a → RunsToVersion told names w b → (v ≡ w) × (a ≡ b)
  one_run v w a b h g =
      (version told tells v w a b h g, (let same : accepted a ≡ accepted b = RunsTo-unique told names (accepted a) (accepted b) tells h.to g.to in cc))
    where
      version : (o : Option Files) → IsTrue (is_some o) → (v w : Version) (a b : Accepted) → RunsToVersion o names v a → RunsToVersion o names w b → v ≡ w
      version None t v w a b h g = absurd (cc)
      version (Some files) t v w a b h g = IsLastVersion-unique h.last (subst (λ texts. IsLastVersion texts w) (g.to.read ∙ sym h.to.read) g.last)

  -- an accepted run isn't refused
  accepted-or-refused : {X : Type 0} (run : Accepted) (place line : ℕ) (kind : Kind) → RunsTo told names (accepted run)
      → RunsTo told names (refused_at place line kind) → X
  accepted-or-refused run place line kind h g =
      let same : accepted run ≡ refused_at place line kind = RunsTo-unique told names (accepted run) (refused_at place line kind) tells h g in
      absurd (cc)

  pub written-due : (version : Version) (run : Accepted) → IsRunOfVersion told names version run → IsWritable version run → (due : Status)
      → IsDueOfArticle told names due → Done ≡ due
  written-due version run h s Done d = refl
  written-due version run h s (Refused place line kind) d = accepted-or-refused run place line kind (read-RunsToVersion h).to d
  written-due version run h s Unwritable d =
      let one = one_run d.0 version d.1 run d.2 (read-RunsToVersion h) in
      absurd (writable-or-not version run s (subst (λ v. IsUnwritable v run) one.0 (subst (IsUnwritable d.0) one.1 d.3)))
  written-due version run h s Usage d = absurd d
  written-due version run h s ReadFault d = absurd d
  written-due version run h s WriteFault d = absurd d
  written-due version run h s Memory d = absurd d
  written-due version run h s (DkRefused place kind) d = absurd d
  written-due version run h s (IllTyped i) d = absurd d
  written-due version run h s (OverBudget i) d = absurd d
  written-due version run h s (NotSequent i) d = absurd d

  pub unwritable-due : (version : Version) (run : Accepted) → IsRunOfVersion told names version run → IsUnwritable version run → (due : Status)
      → IsDueOfArticle told names due → Unwritable ≡ due
  unwritable-due version run h s Done d =
      let one = one_run version d.0 run d.1 (read-RunsToVersion h) d.2 in
      absurd (writable-or-not d.0 d.1 d.3 (subst (λ v. IsUnwritable v d.1) one.0 (subst (IsUnwritable version) one.1 s)))
  unwritable-due version run h s (Refused place line kind) d = accepted-or-refused run place line kind (read-RunsToVersion h).to d
  unwritable-due version run h s Unwritable d = refl
  unwritable-due version run h s Usage d = absurd d
  unwritable-due version run h s ReadFault d = absurd d
  unwritable-due version run h s WriteFault d = absurd d
  unwritable-due version run h s Memory d = absurd d
  unwritable-due version run h s (DkRefused place kind) d = absurd d
  unwritable-due version run h s (IllTyped i) d = absurd d
  unwritable-due version run h s (OverBudget i) d = absurd d
  unwritable-due version run h s (NotSequent i) d = absurd d

  pub refused_article-due : (place line : ℕ) (kind : Kind) → RunsTo told names (refused_at place line kind) → (due : Status) → IsDueOfArticle told names due
      → Refused place line kind ≡ due
  refused_article-due place line kind h Done d = accepted-or-refused d.1 place line kind d.2.to h
  refused_article-due place line kind h (Refused place2 line2 kind2) d =
      let same : refused_at place line kind ≡ refused_at place2 line2 kind2 =
      RunsTo-unique told names (refused_at place line kind) (refused_at place2 line2 kind2) tells h d in
      cc
  refused_article-due place line kind h Unwritable d = accepted-or-refused d.1 place line kind d.2.to h
  refused_article-due place line kind h Usage d = absurd d
  refused_article-due place line kind h ReadFault d = absurd d
  refused_article-due place line kind h WriteFault d = absurd d
  refused_article-due place line kind h Memory d = absurd d
  refused_article-due place line kind h (DkRefused place2 kind2) d = absurd d
  refused_article-due place line kind h (IllTyped i) d = absurd d
  refused_article-due place line kind h (OverBudget i) d = absurd d
  refused_article-due place line kind h (NotSequent i) d = absurd d
