-- Why an article is refused: the number and the name of each kind.
-- Source: the conditions of the commands of the OpenTheory article format, versions 5 and 6.
use Rattle.std.specs.Prelude.{ℕ, List, codes}
use Rattle.common.specs.declared.faults.Kind.{Kind}
use Rattle.common.specs.declared.faults.Kind.TheVariants.{BadLine, StackShort, WrongKind, NoSuchKey, VersionPlace, NotBool, TypeMismatch, NotEquation, NotAlike, VarInHyps, NotRedex, BadArity, BadConstType, NameTaken, NotClosed, ExtraTypeVars, BadDefinitionList, BadTypeVars, BadSubst, NotTheSequent, NumberRange, LineTooLong, TooLarge, TooDeep, TooManyParams, InputTooLong, EmptyList}

-- the number that is printed for a kind
abbrev pub kind_number : Kind → ℕ
kind_number BadLine = 1
kind_number StackShort = 2
kind_number WrongKind = 3
kind_number NoSuchKey = 4
kind_number VersionPlace = 5
kind_number NotBool = 6
kind_number TypeMismatch = 7
kind_number NotEquation = 8
kind_number NotAlike = 9
kind_number VarInHyps = 10
kind_number NotRedex = 11
kind_number BadArity = 12
kind_number BadConstType = 13
kind_number NameTaken = 14
kind_number NotClosed = 15
kind_number ExtraTypeVars = 16
kind_number BadDefinitionList = 17
kind_number BadTypeVars = 18
kind_number BadSubst = 19
kind_number NotTheSequent = 20
kind_number NumberRange = 21
kind_number LineTooLong = 22
kind_number TooLarge = 23
kind_number TooDeep = 24
kind_number TooManyParams = 25
kind_number InputTooLong = 26
kind_number EmptyList = 27

-- the name that is printed for a kind
abbrev pub kind_name : Kind → List ℕ
kind_name BadLine = codes "BadLine"
kind_name StackShort = codes "StackShort"
kind_name WrongKind = codes "WrongKind"
kind_name NoSuchKey = codes "NoSuchKey"
kind_name VersionPlace = codes "VersionPlace"
kind_name NotBool = codes "NotBool"
kind_name TypeMismatch = codes "TypeMismatch"
kind_name NotEquation = codes "NotEquation"
kind_name NotAlike = codes "NotAlike"
kind_name VarInHyps = codes "VarInHyps"
kind_name NotRedex = codes "NotRedex"
kind_name BadArity = codes "BadArity"
kind_name BadConstType = codes "BadConstType"
kind_name NameTaken = codes "NameTaken"
kind_name NotClosed = codes "NotClosed"
kind_name ExtraTypeVars = codes "ExtraTypeVars"
kind_name BadDefinitionList = codes "BadDefinitionList"
kind_name BadTypeVars = codes "BadTypeVars"
kind_name BadSubst = codes "BadSubst"
kind_name NotTheSequent = codes "NotTheSequent"
kind_name NumberRange = codes "NumberRange"
kind_name LineTooLong = codes "LineTooLong"
kind_name TooLarge = codes "TooLarge"
kind_name TooDeep = codes "TooDeep"
kind_name TooManyParams = codes "TooManyParams"
kind_name InputTooLong = codes "InputTooLong"
kind_name EmptyList = codes "EmptyList"
