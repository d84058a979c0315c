-- What reduction, conversion and typing obey, as statements: of every well-typed module, proved in the crate lp_reduction_laws, and of the
-- signature and the two lemmas, proved in the crate lp_typing_laws.
use Rattle.std.specs.Prelude.{◌≡◌, ℕ, List, [], Some}
use Rattle.lp_spec.specs.Trees.{Tree, Pi}
use Rattle.lp_spec.specs.Modules.{Declaration, symbol_type}
use Rattle.lp_spec.specs.Lemmas.{lemmas}
use Rattle.lp_spec.specs.Conversion.{Step, Steps, Conv}
use Rattle.lp_spec.specs.Typing.{Typed, IsContext, IsSorted, WellTyped}

-- The law of confluence (Church and Rosser, 1936): where a tree goes by steps to two, both go by steps to one.
abbrev pub Confluence : Type 0
Confluence = (m : List Declaration) → WellTyped m → (t u v : Tree) → Steps m t u → Steps m t v → (w : Tree) × Steps m u w × Steps m v w

-- The law of products: products that are convertible have convertible domains and convertible bodies.
abbrev pub InjectiveProducts : Type 0
InjectiveProducts = (m : List Declaration) → WellTyped m → (a b c d : Tree) → Conv m (Pi a b) (Pi c d) → Conv m a c × Conv m b d

-- The law of subject reduction: a step keeps the type, in a context whose entries are types.
abbrev pub TypingKept : Type 0
TypingKept = (m : List Declaration) → WellTyped m → (G : List Tree) → IsContext m G → (t u A : Tree) → Typed m G t A → Step m t u → Typed m G u A

-- The law of the signature: each of its declared types has a sort, over the signature alone.
abbrev pub SignatureTyped : Type 0
SignatureTyped = (s : ℕ) (A : Tree) → symbol_type [] s ≡ Some A → IsSorted [] [] A

-- The law of lemmas: the two with which every module begins are a well-typed module.
abbrev pub LemmasTyped : Type 0
LemmasTyped = WellTyped lemmas
