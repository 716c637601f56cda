-- The rules by number and name.
use Rattle.std.specs.Prelude.{ℕ, List, codes}
use Rattle.clu_base.specs.declared.rules.Rule.{Rule}
use Rattle.clu_base.specs.declared.rules.Rule.TheVariants as rule

-- the rule's number, as in V5
abbrev pub number_of : Rule → ℕ
number_of rule.Token = 1
number_of rule.Syntax = 2
number_of rule.TooDeep = 3
number_of rule.LiteralRange = 4
number_of rule.UnknownName = 5
number_of rule.DefinedTwice = 6
number_of rule.CircularEquate = 7
number_of rule.NotConstant = 8
number_of rule.NotType = 9
number_of rule.Real = 10
number_of rule.NoOperation = 11
number_of rule.ArgumentCount = 12
number_of rule.ArgumentType = 13
number_of rule.ResultCount = 14
number_of rule.AssignType = 15
number_of rule.NotBool = 16
number_of rule.Selectors = 17
number_of rule.WhereNotMet = 18
number_of rule.ParameterKind = 19
number_of rule.NotInTypeSet = 20
number_of rule.NotTagged = 21
number_of rule.TagMissingOrTwice = 22
number_of rule.ArmTypes = 23
number_of rule.ArmTwice = 24
number_of rule.SignalNotListed = 25
number_of rule.SignalTypes = 26
number_of rule.ExitNoArm = 27
number_of rule.NotInLoop = 28
number_of rule.NotInIterator = 29
number_of rule.ReturnValues = 30
number_of rule.CvtPlace = 31
number_of rule.UpDown = 32
number_of rule.ExportMissing = 33
number_of rule.EndName = 34
number_of rule.RoutineTooLarge = 35
number_of rule.IteratorUse = 36
number_of rule.OwnPlace = 37

-- the rule's name, as in UnknownName
unfoldable pub name_of : Rule → List ℕ
name_of rule.Token = codes "Token"
name_of rule.Syntax = codes "Syntax"
name_of rule.TooDeep = codes "TooDeep"
name_of rule.LiteralRange = codes "LiteralRange"
name_of rule.UnknownName = codes "UnknownName"
name_of rule.DefinedTwice = codes "DefinedTwice"
name_of rule.CircularEquate = codes "CircularEquate"
name_of rule.NotConstant = codes "NotConstant"
name_of rule.NotType = codes "NotType"
name_of rule.Real = codes "Real"
name_of rule.NoOperation = codes "NoOperation"
name_of rule.ArgumentCount = codes "ArgumentCount"
name_of rule.ArgumentType = codes "ArgumentType"
name_of rule.ResultCount = codes "ResultCount"
name_of rule.AssignType = codes "AssignType"
name_of rule.NotBool = codes "NotBool"
name_of rule.Selectors = codes "Selectors"
name_of rule.WhereNotMet = codes "WhereNotMet"
name_of rule.ParameterKind = codes "ParameterKind"
name_of rule.NotInTypeSet = codes "NotInTypeSet"
name_of rule.NotTagged = codes "NotTagged"
name_of rule.TagMissingOrTwice = codes "TagMissingOrTwice"
name_of rule.ArmTypes = codes "ArmTypes"
name_of rule.ArmTwice = codes "ArmTwice"
name_of rule.SignalNotListed = codes "SignalNotListed"
name_of rule.SignalTypes = codes "SignalTypes"
name_of rule.ExitNoArm = codes "ExitNoArm"
name_of rule.NotInLoop = codes "NotInLoop"
name_of rule.NotInIterator = codes "NotInIterator"
name_of rule.ReturnValues = codes "ReturnValues"
name_of rule.CvtPlace = codes "CvtPlace"
name_of rule.UpDown = codes "UpDown"
name_of rule.ExportMissing = codes "ExportMissing"
name_of rule.EndName = codes "EndName"
name_of rule.RoutineTooLarge = codes "RoutineTooLarge"
name_of rule.IteratorUse = codes "IteratorUse"
name_of rule.OwnPlace = codes "OwnPlace"
