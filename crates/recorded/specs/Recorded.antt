-- 233 recorded functions: of each changed rule the first that it alters. Made by `judge/run definitions`. Assumes nothing.
use Rattle.std.specs.Prelude.{List, [], ◌∷◌}
use Rattle.hir.specs.declared.tables.Reason.TheVariants as reasons
use Rattle.reactive.specs.declared.code.Code.TheVariants as codes
use Rattle.reactive.specs.declared.kind.Kind.TheVariants as kinds
use Rattle.reactive.specs.declared.mode.Mode.TheVariants as modes
use Rattle.recorded.specs.Tables.{Recorded, recorded, run, row, identified, numbered, leaf, mode_leaf, function_leaf}

-- each with its line in crates/replay/stdin, and the changes of rules for which it was chosen
abbrev pub functions : List Recorded
functions =
    -- line 1: OwnParametersOmitted
    recorded ((0, 0) ∷ []) [] [] (run (0 ∷ [])
    []
    ((0, reasons.OwnParameter) ∷ []) (2 ∷ []) ∷ []) ∷
    -- line 2: InstancesOfAuthors
    recorded ((0, 0) ∷ (0, 1) ∷ []) [] [] (run []
    (identified 1 codes.Return 0 ∷ [])
    [] (0 ∷ 1 ∷ []) ∷ []) ∷
    -- line 4: UseOmitted Instances Return, InstancesOmitted
    recorded ((0, 0) ∷ (0, 0) ∷ []) [] [] (run (1 ∷ [])
    (identified 1 codes.Return 0 ∷ [])
    ((1, reasons.OwnParameter) ∷ (0, reasons.SameDeclaration) ∷ []) (2 ∷ 2 ∷ []) ∷ []) ∷
    -- line 7: UseOmitted Instances Switch
    recorded ((1, 0) ∷ (1, 0) ∷ []) [] [] (run (1 ∷ [])
    (identified 1 codes.Switch 0 ∷ [])
    ((1, reasons.OwnParameter) ∷ (0, reasons.SameDeclaration) ∷ []) (2 ∷ 2 ∷ []) ∷ []) ∷
    -- line 10: UseOmitted Instances Throw
    recorded ((1, 0) ∷ (1, 0) ∷ []) [] [] (run (0 ∷ [])
    (identified 1 codes.Throw 1 ∷ [])
    ((0, reasons.OwnParameter) ∷ (1, reasons.SameDeclaration) ∷ []) (2 ∷ 2 ∷ []) ∷ []) ∷
    -- line 15: LetterByOperand
    recorded ((0, 0) ∷ []) [] [] (run (0 ∷ [])
    (row 1 codes.Instruction ∷ leaf 2 kinds.JsxExpression (0 ∷ []) [] ∷ [])
    ((0, reasons.OwnParameter) ∷ []) (2 ∷ []) ∷ []) ∷
    -- line 17: LvalueOmitted
    recorded ((0, 0) ∷ (0, 0) ∷ []) [] [] (run (0 ∷ [])
    (identified 1 codes.Instruction 1 ∷ leaf 2 kinds.Primitive [] [] ∷ [])
    ((0, reasons.OwnParameter) ∷ (1, reasons.SameDeclaration) ∷ []) (2 ∷ 2 ∷ []) ∷ []) ∷
    -- line 20: UseOmitted Instances If
    recorded ((0, 0) ∷ (0, 0) ∷ []) [] [] (run (0 ∷ [])
    (identified 1 codes.If 1 ∷ row 2 codes.Block ∷ [])
    ((0, reasons.OwnParameter) ∷ (1, reasons.SameDeclaration) ∷ []) (2 ∷ 2 ∷ []) ∷ []) ∷
    -- line 24: UseOmitted Instances Case
    recorded ((0, 0) ∷ (0, 0) ∷ []) [] [] (run (0 ∷ [])
    (identified 1 codes.Switch 0 ∷ identified 2 codes.Case 1 ∷ [])
    ((0, reasons.OwnParameter) ∷ (1, reasons.SameDeclaration) ∷ []) (2 ∷ 2 ∷ []) ∷ []) ∷
    -- line 28: LetterOmitted
    recorded ((0, 0) ∷ []) [] [] (run (0 ∷ [])
    (row 1 codes.Instruction ∷ leaf 2 kinds.JsxExpression (0 ∷ []) (0 ∷ []) ∷ [])
    ((0, reasons.OwnParameter) ∷ []) (3 ∷ []) ∷ []) ∷
    -- line 31: InnerOmitted FunctionExpression
    recorded ((0, 0) ∷ []) [] (((0 ∷ []), []) ∷ []) (run []
    (row 1 codes.Instruction ∷ function_leaf 2 kinds.FunctionExpression 0 [] ∷ [])
    ((0, reasons.InnerParameter) ∷ []) (2 ∷ []) ∷ []) ∷
    -- line 33: InnerOmitted ObjectMethod
    recorded ((0, 0) ∷ []) [] (((0 ∷ []), []) ∷ []) (run []
    (row 1 codes.Instruction ∷ function_leaf 2 kinds.ObjectMethod 0 [] ∷ [])
    ((0, reasons.InnerParameter) ∷ []) (2 ∷ []) ∷ []) ∷
    -- line 35: UseOmitted Instances Leaf
    recorded ((0, 0) ∷ (0, 0) ∷ []) [] [] (run (0 ∷ [])
    (row 1 codes.Instruction ∷ leaf 2 kinds.LoadLocal (1 ∷ []) (1 ∷ []) ∷ [])
    ((0, reasons.OwnParameter) ∷ (1, reasons.SameDeclaration) ∷ []) (2 ∷ 2 ∷ []) ∷ []) ∷
    -- line 36: MarksVisited
    recorded ((1, 0) ∷ (1, 0) ∷ []) [] [] (run (1 ∷ [])
    (row 1 codes.Instruction ∷ mode_leaf 2 kinds.Destructure modes.Const (1 ∷ []) (0 ∷ []) ∷ [])
    ((1, reasons.OwnParameter) ∷ []) (0 ∷ 2 ∷ []) ∷ []) ∷
    -- line 37: LetterByIdentifier
    recorded ((0, 0) ∷ (0, 0) ∷ []) [] [] (run (0 ∷ [])
    (row 1 codes.Instruction ∷ leaf 2 kinds.JsxExpression (1 ∷ []) (1 ∷ []) ∷ [])
    ((0, reasons.OwnParameter) ∷ (1, reasons.SameDeclaration) ∷ []) (3 ∷ 3 ∷ []) ∷ []) ∷
    -- line 41: AlwaysEscaped
    recorded ((0, 0) ∷ []) (([], (0 ∷ []), []) ∷ []) [] (run []
    (numbered 1 codes.Pruned 0 ∷ row 2 codes.Block ∷ [])
    [] (0 ∷ []) ∷ []) ∷
    -- line 42: DeclarationsOmitted
    recorded ((0, 0) ∷ []) (([], (0 ∷ []), []) ∷ []) [] (run []
    (numbered 1 codes.Scope 0 ∷ row 2 codes.Block ∷ [])
    ((0, reasons.Scope) ∷ []) (2 ∷ []) ∷ []) ∷
    -- line 43: ReassignmentsNamed
    recorded ((0, 0) ∷ []) (([], [], (0 ∷ [])) ∷ []) [] (run []
    (numbered 1 codes.Scope 0 ∷ row 2 codes.Block ∷ [])
    [] (0 ∷ []) ∷ []) ∷
    -- line 45: DependenciesOmitted
    recorded ((0, 0) ∷ []) (((0 ∷ []), [], []) ∷ []) [] (run []
    (numbered 1 codes.Scope 0 ∷ row 2 codes.Block ∷ [])
    ((0, reasons.Scope) ∷ []) (2 ∷ []) ∷ []) ∷
    -- line 48: OperandsReversed(Instances)
    recorded ((1, 0) ∷ (1, 0) ∷ (1, 0) ∷ []) [] [] (run (1 ∷ [])
    (row 1 codes.Instruction ∷ leaf 2 kinds.ComputedDelete (2 ∷ 0 ∷ []) [] ∷ [])
    ((1, reasons.OwnParameter) ∷ (2, reasons.SameDeclaration) ∷ (0, reasons.SameDeclaration) ∷ []) (2 ∷ 2 ∷ 2 ∷ []) ∷ []) ∷
    -- line 51: LvalueAfterValue
    recorded ((1, 0) ∷ (1, 0) ∷ (1, 0) ∷ []) [] [] (run (1 ∷ [])
    (identified 1 codes.Instruction 0 ∷ leaf 2 kinds.PropertyStore (1 ∷ 2 ∷ []) [] ∷ [])
    ((1, reasons.OwnParameter) ∷ (0, reasons.SameDeclaration) ∷ (2, reasons.SameDeclaration) ∷ []) (2 ∷ 2 ∷ 2 ∷ []) ∷ []) ∷
    -- line 58: UntrackedPromoted
    recorded ((0, 0) ∷ []) [] [] (run []
    (row 1 codes.Instruction ∷ leaf 2 kinds.CallExpression (0 ∷ []) [] ∷ identified 1 codes.Return 0 ∷ [])
    [] (0 ∷ []) ∷ []) ∷
    -- line 60: DeclarationsFirst
    recorded ((0, 0) ∷ (1, 0) ∷ []) (((0 ∷ []), (1 ∷ []), []) ∷ []) [] (run []
    (numbered 1 codes.Scope 0 ∷ row 2 codes.Block ∷ [])
    ((0, reasons.Scope) ∷ (1, reasons.Scope) ∷ []) (2 ∷ 2 ∷ []) ∷ []) ∷
    -- line 61: ScopeReassignmentsOmitted
    recorded ((0, 0) ∷ (0, 0) ∷ []) (([], (1 ∷ []), (0 ∷ [])) ∷ []) [] (run []
    (numbered 1 codes.Scope 0 ∷ row 2 codes.Block ∷ [])
    ((1, reasons.Scope) ∷ (0, reasons.SameDeclaration) ∷ []) (2 ∷ 2 ∷ []) ∷ []) ∷
    -- line 63: PrunedDependenciesOmitted
    recorded ((0, 0) ∷ (0, 0) ∷ []) (((1 ∷ []), [], []) ∷ []) [] (run (0 ∷ [])
    (numbered 1 codes.Pruned 0 ∷ row 2 codes.Block ∷ [])
    ((0, reasons.OwnParameter) ∷ (1, reasons.SameDeclaration) ∷ []) (2 ∷ 2 ∷ []) ∷ []) ∷
    -- line 65: PrunedDeclarationsOmitted
    recorded ((0, 0) ∷ (0, 0) ∷ []) (([], (1 ∷ []), []) ∷ []) [] (run (0 ∷ [])
    (numbered 1 codes.Pruned 0 ∷ row 2 codes.Block ∷ [])
    ((0, reasons.OwnParameter) ∷ (1, reasons.SameDeclaration) ∷ []) (2 ∷ 2 ∷ []) ∷ []) ∷
    -- line 69: PrunedReassignmentsOmitted
    recorded ((1, 0) ∷ (1, 0) ∷ []) (([], [], (1 ∷ [])) ∷ []) [] (run (0 ∷ [])
    (numbered 1 codes.Pruned 0 ∷ row 2 codes.Block ∷ [])
    ((0, reasons.OwnParameter) ∷ (1, reasons.SameDeclaration) ∷ []) (2 ∷ 2 ∷ []) ∷ []) ∷
    -- line 80: NestedOmitted
    recorded ((0, 0) ∷ []) [] (([], (1 ∷ [])) ∷ ((0 ∷ []), []) ∷ []) (run []
    (row 1 codes.Instruction ∷ function_leaf 2 kinds.FunctionExpression 0 [] ∷ [])
    ((0, reasons.InnerParameter) ∷ []) (2 ∷ []) ∷ []) ∷
    -- line 86: ScopeListsReversed
    recorded ((0, 0) ∷ (0, 0) ∷ (0, 0) ∷ []) (([], (2 ∷ []), (1 ∷ [])) ∷ []) [] (run (0 ∷ [])
    (numbered 1 codes.Pruned 0 ∷ row 2 codes.Block ∷ [])
    ((0, reasons.OwnParameter) ∷ (2, reasons.SameDeclaration) ∷ (1, reasons.SameDeclaration) ∷ []) (2 ∷ 2 ∷ 2 ∷ []) ∷ []) ∷
    -- line 92: InstancesOfEarlierRuns
    recorded ((0, 0) ∷ (0, 0) ∷ []) [] [] (run (1 ∷ [])
    []
    ((1, reasons.OwnParameter) ∷ []) (0 ∷ 2 ∷ []) ∷ run []
    (identified 1 codes.Instruction 0 ∷ leaf 2 kinds.Primitive [] [] ∷ [])
    [] (0 ∷ 2 ∷ []) ∷ []) ∷
    -- line 93: NestedFirst
    recorded ((0, 0) ∷ (1, 0) ∷ []) [] (((0 ∷ []), (1 ∷ [])) ∷ ((1 ∷ []), []) ∷ []) (run []
    (row 1 codes.Instruction ∷ function_leaf 2 kinds.FunctionExpression 0 [] ∷ [])
    ((0, reasons.InnerParameter) ∷ (1, reasons.InnerParameter) ∷ []) (2 ∷ 2 ∷ []) ∷ []) ∷
    -- line 96: EscapeWithoutScope, PrunedIsActive
    recorded ((0, 0) ∷ []) (([], (0 ∷ []), []) ∷ []) [] (run []
    (numbered 1 codes.Pruned 0 ∷ row 2 codes.Block ∷ identified 3 codes.Return 0 ∷ [])
    [] (0 ∷ []) ∷ []) ∷
    -- line 97: LetterOfEarlierRuns
    recorded ((0, 0) ∷ []) [] [] (run []
    (row 1 codes.Instruction ∷ leaf 2 kinds.JsxExpression (0 ∷ []) (0 ∷ []) ∷ [])
    [] (0 ∷ []) ∷ run (0 ∷ [])
    []
    ((0, reasons.OwnParameter) ∷ []) (2 ∷ []) ∷ []) ∷
    -- line 114: DeeplyNestedOmitted
    recorded ((0, 0) ∷ []) [] (([], (1 ∷ [])) ∷ ([], (2 ∷ [])) ∷ ((0 ∷ []), []) ∷ []) (run []
    (row 1 codes.Instruction ∷ function_leaf 2 kinds.FunctionExpression 0 [] ∷ [])
    ((0, reasons.InnerParameter) ∷ []) (2 ∷ []) ∷ []) ∷
    -- line 131: UseOmitted Instances Handler
    recorded ((1, 0) ∷ (1, 0) ∷ []) [] [] (run (1 ∷ [])
    (row 1 codes.Try ∷ row 2 codes.Block ∷ identified 2 codes.Handler 0 ∷ row 3 codes.Block ∷ [])
    ((1, reasons.OwnParameter) ∷ (0, reasons.SameDeclaration) ∷ []) (2 ∷ 2 ∷ []) ∷ []) ∷
    -- line 138: BarrierBeforeUses
    recorded ((0, 0) ∷ []) [] [] (run []
    (identified 1 codes.Instruction 0 ∷ leaf 2 kinds.PostfixUpdate (0 ∷ []) [] ∷ row 1 codes.Instruction ∷
    mode_leaf 2 kinds.StoreLocal modes.HoistedFunction (0 ∷ []) (0 ∷ []) ∷ [])
    [] (0 ∷ []) ∷ []) ∷
    -- line 144: ScopeListsOnEntering
    recorded ((0, 0) ∷ (0, 0) ∷ (0, 0) ∷ []) (([], (1 ∷ []), (2 ∷ [])) ∷ []) [] (run []
    (numbered 1 codes.Scope 0 ∷ row 2 codes.Block ∷ identified 3 codes.Return 0 ∷ [])
    ((1, reasons.Scope) ∷ (0, reasons.SameDeclaration) ∷ (2, reasons.SameDeclaration) ∷ []) (2 ∷ 2 ∷ 2 ∷ []) ∷ []) ∷
    -- line 194: BarrierAdded LoadGlobal
    recorded ((0, 0) ∷ []) [] [] (run []
    (identified 1 codes.Instruction 0 ∷ leaf 2 kinds.PropertyDelete (0 ∷ []) [] ∷ row 1 codes.Instruction ∷
    leaf 2 kinds.LoadGlobal [] [] ∷ identified 1 codes.Return 0 ∷ [])
    [] (0 ∷ []) ∷ []) ∷
    -- line 195: BarrierAdded JSXText
    recorded ((0, 0) ∷ []) [] [] (run []
    (identified 1 codes.Instruction 0 ∷ leaf 2 kinds.CallExpression (0 ∷ []) [] ∷ row 1 codes.Instruction ∷
    leaf 2 kinds.JSXText [] [] ∷ identified 1 codes.Return 0 ∷ [])
    [] (0 ∷ []) ∷ []) ∷
    -- line 197: BarrierAdded TemplateLiteral
    recorded ((0, 0) ∷ []) [] [] (run []
    (identified 1 codes.Instruction 0 ∷ leaf 2 kinds.Await (0 ∷ []) [] ∷ row 1 codes.Instruction ∷
    leaf 2 kinds.TemplateLiteral [] [] ∷ identified 1 codes.Return 0 ∷ [])
    [] (0 ∷ []) ∷ []) ∷
    -- line 198: TrackingAdded LoadGlobal
    recorded ((0, 0) ∷ []) [] [] (run []
    (identified 1 codes.Instruction 0 ∷ leaf 2 kinds.LoadGlobal [] [] ∷ row 1 codes.Instruction ∷ leaf 2 kinds.Await (0 ∷ []) [] ∷
    identified 1 codes.Return 0 ∷ [])
    [] (0 ∷ []) ∷ []) ∷
    -- line 199: TrackingAdded Debugger
    recorded ((0, 0) ∷ []) [] [] (run []
    (identified 1 codes.Instruction 0 ∷ leaf 2 kinds.Debugger [] [] ∷ row 1 codes.Instruction ∷ leaf 2 kinds.Await (0 ∷ []) [] ∷
    identified 1 codes.Return 0 ∷ [])
    [] (0 ∷ []) ∷ []) ∷
    -- line 200: BarrierAdded ObjectExpression
    recorded ((0, 0) ∷ []) [] [] (run []
    (identified 1 codes.Instruction 0 ∷ leaf 2 kinds.Await (0 ∷ []) [] ∷ row 1 codes.Instruction ∷
    leaf 2 kinds.ObjectExpression [] [] ∷ identified 1 codes.Return 0 ∷ [])
    [] (0 ∷ []) ∷ []) ∷
    -- line 201: BarrierAdded MetaProperty
    recorded ((0, 0) ∷ []) [] [] (run []
    (identified 1 codes.Instruction 0 ∷ leaf 2 kinds.PropertyDelete (0 ∷ []) [] ∷ row 1 codes.Instruction ∷
    leaf 2 kinds.MetaProperty [] [] ∷ identified 1 codes.Return 0 ∷ [])
    [] (0 ∷ []) ∷ []) ∷
    -- line 202: TrackingAdded JSXText
    recorded ((0, 0) ∷ []) [] [] (run []
    (identified 1 codes.Instruction 0 ∷ leaf 2 kinds.JSXText [] [] ∷ row 1 codes.Instruction ∷
    mode_leaf 2 kinds.Destructure modes.Catch (0 ∷ []) [] ∷ identified 1 codes.Return 0 ∷ [])
    [] (0 ∷ []) ∷ []) ∷
    -- line 203: TrackingAdded Primitive
    recorded ((0, 0) ∷ []) [] [] (run []
    (identified 1 codes.Instruction 0 ∷ leaf 2 kinds.Primitive [] [] ∷ row 1 codes.Instruction ∷
    leaf 2 kinds.PropertyDelete (0 ∷ []) [] ∷ identified 1 codes.Return 0 ∷ [])
    [] (0 ∷ []) ∷ []) ∷
    -- line 206: BarrierAdded Primitive
    recorded ((0, 0) ∷ []) [] [] (run []
    (identified 1 codes.Instruction 0 ∷ leaf 2 kinds.CallExpression (0 ∷ []) [] ∷ row 1 codes.Instruction ∷
    leaf 2 kinds.Primitive [] [] ∷ identified 1 codes.Return 0 ∷ [])
    [] (0 ∷ []) ∷ []) ∷
    -- line 207: BarrierAdded Debugger
    recorded ((0, 0) ∷ []) [] [] (run []
    (identified 1 codes.Instruction 0 ∷ leaf 2 kinds.CallExpression (0 ∷ []) [] ∷ row 1 codes.Instruction ∷
    leaf 2 kinds.Debugger [] [] ∷ identified 1 codes.Return 0 ∷ [])
    [] (0 ∷ []) ∷ []) ∷
    -- line 208: BarrierAdded JsxFragment
    recorded ((0, 0) ∷ []) [] [] (run []
    (identified 1 codes.Instruction 0 ∷ leaf 2 kinds.PostfixUpdate (0 ∷ []) [] ∷ row 1 codes.Instruction ∷
    leaf 2 kinds.JsxFragment [] [] ∷ identified 1 codes.Return 0 ∷ [])
    [] (0 ∷ []) ∷ []) ∷
    -- line 210: BarrierAdded RegExpLiteral
    recorded ((0, 0) ∷ []) [] [] (run []
    (identified 1 codes.Instruction 0 ∷ leaf 2 kinds.PropertyDelete (0 ∷ []) [] ∷ row 1 codes.Instruction ∷
    leaf 2 kinds.RegExpLiteral [] [] ∷ identified 1 codes.Return 0 ∷ [])
    [] (0 ∷ []) ∷ []) ∷
    -- line 211: BarrierAdded ArrayExpression
    recorded ((0, 0) ∷ []) [] [] (run []
    (identified 1 codes.Instruction 0 ∷ leaf 2 kinds.PropertyDelete (0 ∷ []) [] ∷ row 1 codes.Instruction ∷
    leaf 2 kinds.ArrayExpression [] [] ∷ identified 1 codes.Return 0 ∷ [])
    [] (0 ∷ []) ∷ []) ∷
    -- line 212: TrackingAdded RegExpLiteral
    recorded ((0, 0) ∷ []) [] [] (run []
    (identified 1 codes.Instruction 0 ∷ leaf 2 kinds.RegExpLiteral [] [] ∷ row 1 codes.Instruction ∷
    leaf 2 kinds.PostfixUpdate (0 ∷ []) [] ∷ identified 1 codes.Return 0 ∷ [])
    [] (0 ∷ []) ∷ []) ∷
    -- line 213: TrackingAdded JsxExpression
    recorded ((0, 0) ∷ []) [] [] (run []
    (identified 1 codes.Instruction 0 ∷ leaf 2 kinds.JsxExpression [] [] ∷ row 1 codes.Instruction ∷
    leaf 2 kinds.CallExpression (0 ∷ []) [] ∷ identified 1 codes.Return 0 ∷ [])
    [] (0 ∷ []) ∷ []) ∷
    -- line 215: TrackingAdded ArrayExpression
    recorded ((0, 0) ∷ []) [] [] (run []
    (identified 1 codes.Instruction 0 ∷ leaf 2 kinds.ArrayExpression [] [] ∷ row 1 codes.Instruction ∷
    leaf 2 kinds.CallExpression (0 ∷ []) [] ∷ identified 1 codes.Return 0 ∷ [])
    [] (0 ∷ []) ∷ []) ∷
    -- line 230: UseOmitted Interposed Switch, BarrierOmitted CallExpression, TrackingOmitted CallExpression, BarrierWithoutLvalueOmitted
    recorded ((0, 0) ∷ []) [] [] (run []
    (identified 1 codes.Instruction 0 ∷ leaf 2 kinds.CallExpression (0 ∷ []) [] ∷ row 1 codes.Instruction ∷
    leaf 2 kinds.CallExpression (0 ∷ []) [] ∷ identified 1 codes.Switch 0 ∷ [])
    ((0, reasons.Interposed) ∷ []) (2 ∷ []) ∷ []) ∷
    -- line 231: UseOmitted Interposed Return
    recorded ((0, 0) ∷ []) [] [] (run []
    (identified 1 codes.Instruction 0 ∷ leaf 2 kinds.CallExpression (0 ∷ []) [] ∷ row 1 codes.Instruction ∷
    leaf 2 kinds.CallExpression (0 ∷ []) [] ∷ identified 1 codes.Return 0 ∷ [])
    ((0, reasons.Interposed) ∷ []) (2 ∷ []) ∷ []) ∷
    -- line 232: UseOmitted Interposed Throw, BarrierOmitted Destructure, TrackingOmitted Await
    recorded ((0, 0) ∷ []) [] [] (run []
    (identified 1 codes.Instruction 0 ∷ leaf 2 kinds.Await (0 ∷ []) [] ∷ row 1 codes.Instruction ∷
    mode_leaf 2 kinds.Destructure modes.HoistedFunction (0 ∷ []) [] ∷ identified 1 codes.Throw 0 ∷ [])
    ((0, reasons.Interposed) ∷ []) (2 ∷ []) ∷ []) ∷
    -- line 234: BarrierOmitted PrefixUpdate
    recorded ((0, 0) ∷ []) [] [] (run []
    (identified 1 codes.Instruction 0 ∷ leaf 2 kinds.CallExpression (0 ∷ []) [] ∷ row 1 codes.Instruction ∷
    leaf 2 kinds.PrefixUpdate (0 ∷ []) [] ∷ identified 1 codes.Return 0 ∷ [])
    ((0, reasons.Interposed) ∷ []) (2 ∷ []) ∷ []) ∷
    -- line 237: TrackingAdded FinishMemoize
    recorded ((0, 0) ∷ []) [] [] (run []
    (identified 1 codes.Instruction 0 ∷ leaf 2 kinds.FinishMemoize (0 ∷ []) [] ∷ row 1 codes.Instruction ∷
    leaf 2 kinds.PostfixUpdate (0 ∷ []) [] ∷ identified 1 codes.Return 0 ∷ [])
    [] (0 ∷ []) ∷ []) ∷
    -- line 242: BarrierAdded GetIterator
    recorded ((0, 0) ∷ []) [] [] (run []
    (identified 1 codes.Instruction 0 ∷ leaf 2 kinds.CallExpression (0 ∷ []) [] ∷ row 1 codes.Instruction ∷
    leaf 2 kinds.GetIterator (0 ∷ []) [] ∷ identified 1 codes.Return 0 ∷ [])
    [] (0 ∷ []) ∷ []) ∷
    -- line 244: BarrierOmitted PropertyDelete, TrackingOmitted PrefixUpdate
    recorded ((0, 0) ∷ []) [] [] (run []
    (identified 1 codes.Instruction 0 ∷ leaf 2 kinds.PrefixUpdate (0 ∷ []) [] ∷ row 1 codes.Instruction ∷
    leaf 2 kinds.PropertyDelete (0 ∷ []) [] ∷ identified 1 codes.Return 0 ∷ [])
    ((0, reasons.Interposed) ∷ []) (2 ∷ []) ∷ []) ∷
    -- line 245: BarrierOmitted PostfixUpdate
    recorded ((0, 0) ∷ []) [] [] (run []
    (identified 1 codes.Instruction 0 ∷ leaf 2 kinds.Await (0 ∷ []) [] ∷ row 1 codes.Instruction ∷
    leaf 2 kinds.PostfixUpdate (0 ∷ []) [] ∷ identified 1 codes.Return 0 ∷ [])
    ((0, reasons.Interposed) ∷ []) (2 ∷ []) ∷ []) ∷
    -- line 247: BarrierAdded StartMemoize
    recorded ((0, 0) ∷ []) [] [] (run []
    (identified 1 codes.Instruction 0 ∷ leaf 2 kinds.LoadLocal (0 ∷ []) (0 ∷ []) ∷ row 1 codes.Instruction ∷
    leaf 2 kinds.StartMemoize [] [] ∷ identified 1 codes.Return 0 ∷ [])
    [] (0 ∷ []) ∷ []) ∷
    -- line 248: TrackingOmitted StoreGlobal
    recorded ((0, 0) ∷ []) [] [] (run []
    (identified 1 codes.Instruction 0 ∷ leaf 2 kinds.StoreGlobal (0 ∷ []) [] ∷ row 1 codes.Instruction ∷
    leaf 2 kinds.PropertyDelete (0 ∷ []) [] ∷ identified 1 codes.Return 0 ∷ [])
    ((0, reasons.Interposed) ∷ []) (2 ∷ []) ∷ []) ∷
    -- line 249: TrackingOmitted PropertyDelete, BarrierOmitted StoreGlobal
    recorded ((0, 0) ∷ []) [] [] (run []
    (identified 1 codes.Instruction 0 ∷ leaf 2 kinds.PropertyDelete (0 ∷ []) [] ∷ row 1 codes.Instruction ∷
    leaf 2 kinds.StoreGlobal (0 ∷ []) [] ∷ identified 1 codes.Throw 0 ∷ [])
    ((0, reasons.Interposed) ∷ []) (2 ∷ []) ∷ []) ∷
    -- line 250: TrackingOmitted PostfixUpdate
    recorded ((0, 0) ∷ []) [] [] (run []
    (identified 1 codes.Instruction 0 ∷ leaf 2 kinds.PostfixUpdate (0 ∷ []) [] ∷ row 1 codes.Instruction ∷
    mode_leaf 2 kinds.Destructure modes.HoistedFunction (0 ∷ []) [] ∷ identified 1 codes.Return 0 ∷ [])
    ((0, reasons.Interposed) ∷ []) (2 ∷ []) ∷ []) ∷
    -- line 252: BarrierOmitted Await
    recorded ((0, 0) ∷ []) [] [] (run []
    (identified 1 codes.Instruction 0 ∷ leaf 2 kinds.CallExpression (0 ∷ []) [] ∷ row 1 codes.Instruction ∷
    leaf 2 kinds.Await (0 ∷ []) [] ∷ identified 1 codes.Return 0 ∷ [])
    ((0, reasons.Interposed) ∷ []) (2 ∷ []) ∷ []) ∷
    -- line 258: TrackingOmitted Destructure
    recorded ((0, 0) ∷ []) [] [] (run []
    (identified 1 codes.Instruction 0 ∷ mode_leaf 2 kinds.Destructure modes.Const (0 ∷ []) [] ∷ row 1 codes.Instruction ∷
    mode_leaf 2 kinds.Destructure modes.HoistedLet (0 ∷ []) [] ∷ identified 1 codes.Return 0 ∷ [])
    ((0, reasons.Interposed) ∷ []) (2 ∷ []) ∷ []) ∷
    -- line 269: ConstantStoreIsBarrier Destructure mode 0
    recorded ((0, 0) ∷ []) [] [] (run []
    (identified 1 codes.Instruction 0 ∷ leaf 2 kinds.CallExpression (0 ∷ []) [] ∷ row 1 codes.Instruction ∷
    mode_leaf 2 kinds.Destructure modes.Const (0 ∷ []) [] ∷ identified 1 codes.Return 0 ∷ [])
    [] (0 ∷ []) ∷ []) ∷
    -- line 273: BarrierAdded JsxExpression
    recorded ((0, 0) ∷ []) [] [] (run []
    (identified 1 codes.Instruction 0 ∷ leaf 2 kinds.LoadContext (0 ∷ []) (0 ∷ []) ∷ row 1 codes.Instruction ∷
    leaf 2 kinds.JsxExpression [] [] ∷ identified 1 codes.Return 0 ∷ [])
    [] (0 ∷ []) ∷ []) ∷
    -- line 275: BarrierAdded TaggedTemplateExpression
    recorded ((0, 0) ∷ []) [] [] (run []
    (identified 1 codes.Instruction 0 ∷ leaf 2 kinds.PrefixUpdate (0 ∷ []) [] ∷ row 1 codes.Instruction ∷
    leaf 2 kinds.TaggedTemplateExpression (0 ∷ []) [] ∷ identified 1 codes.Return 0 ∷ [])
    [] (0 ∷ []) ∷ []) ∷
    -- line 287: BarrierAdded TypeCastExpression
    recorded ((0, 0) ∷ []) [] [] (run []
    (identified 1 codes.Instruction 0 ∷ leaf 2 kinds.PrefixUpdate (0 ∷ []) [] ∷ row 1 codes.Instruction ∷
    leaf 2 kinds.TypeCastExpression (0 ∷ []) [] ∷ identified 1 codes.Return 0 ∷ [])
    [] (0 ∷ []) ∷ []) ∷
    -- line 289: BarrierAdded NewExpression
    recorded ((0, 0) ∷ []) [] [] (run []
    (identified 1 codes.Instruction 0 ∷ leaf 2 kinds.Await (0 ∷ []) [] ∷ row 1 codes.Instruction ∷
    leaf 2 kinds.NewExpression (0 ∷ []) [] ∷ identified 1 codes.Return 0 ∷ [])
    [] (0 ∷ []) ∷ []) ∷
    -- line 293: BarrierAdded NextPropertyOf
    recorded ((0, 0) ∷ []) [] [] (run []
    (identified 1 codes.Instruction 0 ∷ leaf 2 kinds.StoreGlobal (0 ∷ []) [] ∷ row 1 codes.Instruction ∷
    leaf 2 kinds.NextPropertyOf (0 ∷ []) [] ∷ identified 1 codes.Return 0 ∷ [])
    [] (0 ∷ []) ∷ []) ∷
    -- line 294: TrackingAdded NextPropertyOf
    recorded ((0, 0) ∷ []) [] [] (run []
    (identified 1 codes.Instruction 0 ∷ leaf 2 kinds.NextPropertyOf (0 ∷ []) [] ∷ row 1 codes.Instruction ∷
    leaf 2 kinds.Await (0 ∷ []) [] ∷ identified 1 codes.Return 0 ∷ [])
    [] (0 ∷ []) ∷ []) ∷
    -- line 299: BarrierAdded FinishMemoize
    recorded ((0, 0) ∷ []) [] [] (run []
    (identified 1 codes.Instruction 0 ∷ leaf 2 kinds.PostfixUpdate (0 ∷ []) [] ∷ row 1 codes.Instruction ∷
    leaf 2 kinds.FinishMemoize (0 ∷ []) [] ∷ identified 1 codes.Return 0 ∷ [])
    [] (0 ∷ []) ∷ []) ∷
    -- line 306: ConstantStoreIsBarrier Destructure mode 4
    recorded ((0, 0) ∷ []) [] [] (run []
    (identified 1 codes.Instruction 0 ∷ leaf 2 kinds.CallExpression (0 ∷ []) [] ∷ row 1 codes.Instruction ∷
    mode_leaf 2 kinds.Destructure modes.HoistedConst (0 ∷ []) [] ∷ identified 1 codes.Return 0 ∷ [])
    [] (0 ∷ []) ∷ []) ∷
    -- line 310: BreadthFirst
    recorded ((0, 0) ∷ (1, 0) ∷ []) [] (((1 ∷ []), []) ∷ ([], (3 ∷ [])) ∷ ([], (1 ∷ 0 ∷ [])) ∷ ((0 ∷ []), []) ∷ []) (run []
    (row 1 codes.Instruction ∷ function_leaf 2 kinds.ObjectMethod 2 [] ∷ [])
    ((0, reasons.InnerParameter) ∷ (1, reasons.InnerParameter) ∷ []) (2 ∷ 2 ∷ []) ∷ []) ∷
    -- line 328: TrackingOmitted PropertyStore
    recorded ((0, 0) ∷ []) [] [] (run []
    (identified 1 codes.Instruction 0 ∷ leaf 2 kinds.PropertyStore (0 ∷ 0 ∷ []) [] ∷ row 1 codes.Instruction ∷
    leaf 2 kinds.PropertyDelete (0 ∷ []) [] ∷ identified 1 codes.Return 0 ∷ [])
    ((0, reasons.Interposed) ∷ []) (2 ∷ []) ∷ []) ∷
    -- line 330: BarrierAdded PropertyLoad
    recorded ((0, 0) ∷ []) [] [] (run []
    (identified 1 codes.Instruction 0 ∷ mode_leaf 2 kinds.Destructure modes.Const (0 ∷ []) [] ∷ row 1 codes.Instruction ∷
    leaf 2 kinds.PropertyLoad (0 ∷ []) (0 ∷ []) ∷ identified 1 codes.Return 0 ∷ [])
    [] (0 ∷ []) ∷ []) ∷
    -- line 331: TrackingOmitted LoadLocal
    recorded ((0, 0) ∷ []) [] [] (run []
    (identified 1 codes.Instruction 0 ∷ leaf 2 kinds.LoadLocal (0 ∷ []) (0 ∷ []) ∷ row 1 codes.Instruction ∷
    leaf 2 kinds.CallExpression (0 ∷ []) [] ∷ identified 1 codes.Return 0 ∷ [])
    ((0, reasons.Interposed) ∷ []) (2 ∷ []) ∷ []) ∷
    -- line 332: BarrierOmitted PropertyStore
    recorded ((0, 0) ∷ []) [] [] (run []
    (identified 1 codes.Instruction 0 ∷ leaf 2 kinds.StoreGlobal (0 ∷ []) [] ∷ row 1 codes.Instruction ∷
    leaf 2 kinds.PropertyStore (0 ∷ 0 ∷ []) [] ∷ identified 1 codes.Return 0 ∷ [])
    ((0, reasons.Interposed) ∷ []) (2 ∷ []) ∷ []) ∷
    -- line 335: TrackingOmitted LoadContext
    recorded ((0, 0) ∷ []) [] [] (run []
    (identified 1 codes.Instruction 0 ∷ leaf 2 kinds.LoadContext (0 ∷ []) (0 ∷ []) ∷ row 1 codes.Instruction ∷
    leaf 2 kinds.PropertyDelete (0 ∷ []) [] ∷ identified 1 codes.Return 0 ∷ [])
    ((0, reasons.Interposed) ∷ []) (2 ∷ []) ∷ []) ∷
    -- line 336: TrackingOmitted PropertyLoad
    recorded ((0, 0) ∷ []) [] [] (run []
    (identified 1 codes.Instruction 0 ∷ leaf 2 kinds.PropertyLoad (0 ∷ []) (0 ∷ []) ∷ row 1 codes.Instruction ∷
    leaf 2 kinds.PropertyDelete (0 ∷ []) [] ∷ identified 1 codes.Return 0 ∷ [])
    ((0, reasons.Interposed) ∷ []) (2 ∷ []) ∷ []) ∷
    -- line 339: ConstantAdded Destructure mode 2
    recorded ((0, 0) ∷ []) [] [] (run []
    (identified 1 codes.Instruction 0 ∷ leaf 2 kinds.CallExpression (0 ∷ []) [] ∷ row 1 codes.Instruction ∷
    mode_leaf 2 kinds.Destructure modes.Reassign (0 ∷ []) (0 ∷ []) ∷ identified 1 codes.Return 0 ∷ [])
    ((0, reasons.Interposed) ∷ []) (2 ∷ []) ∷ []) ∷
    -- line 346: ConstantAdded Destructure mode 6
    recorded ((0, 0) ∷ []) [] [] (run []
    (identified 1 codes.Instruction 0 ∷ mode_leaf 2 kinds.Destructure modes.HoistedFunction (0 ∷ []) (0 ∷ []) ∷
    row 1 codes.Instruction ∷ leaf 2 kinds.PostfixUpdate (0 ∷ []) [] ∷ identified 1 codes.Return 0 ∷ [])
    ((0, reasons.Interposed) ∷ []) (2 ∷ []) ∷ []) ∷
    -- line 352: BarrierOmitted ComputedDelete
    recorded ((0, 0) ∷ []) [] [] (run []
    (identified 1 codes.Instruction 0 ∷ leaf 2 kinds.CallExpression (0 ∷ []) [] ∷ row 1 codes.Instruction ∷
    leaf 2 kinds.ComputedDelete (0 ∷ 0 ∷ []) [] ∷ identified 1 codes.Return 0 ∷ [])
    ((0, reasons.Interposed) ∷ []) (2 ∷ []) ∷ []) ∷
    -- line 358: BarrierAdded DeclareLocal
    recorded ((0, 0) ∷ []) [] [] (run []
    (identified 1 codes.Instruction 0 ∷ leaf 2 kinds.PropertyStore (0 ∷ 0 ∷ []) [] ∷ row 1 codes.Instruction ∷
    mode_leaf 2 kinds.DeclareLocal modes.Function [] (0 ∷ []) ∷ identified 1 codes.Return 0 ∷ [])
    [] (0 ∷ []) ∷ []) ∷
    -- line 362: BarrierAdded LoadContext
    recorded ((0, 0) ∷ []) [] [] (run []
    (identified 1 codes.Instruction 0 ∷ leaf 2 kinds.Await (0 ∷ []) [] ∷ row 1 codes.Instruction ∷
    leaf 2 kinds.LoadContext (0 ∷ []) (0 ∷ []) ∷ identified 1 codes.Return 0 ∷ [])
    [] (0 ∷ []) ∷ []) ∷
    -- line 371: TrackingOmitted ComputedDelete
    recorded ((0, 0) ∷ []) [] [] (run []
    (identified 1 codes.Instruction 0 ∷ leaf 2 kinds.ComputedDelete (0 ∷ 0 ∷ []) [] ∷ row 1 codes.Instruction ∷
    leaf 2 kinds.PostfixUpdate (0 ∷ []) [] ∷ identified 1 codes.Return 0 ∷ [])
    ((0, reasons.Interposed) ∷ []) (2 ∷ []) ∷ []) ∷
    -- line 376: BarrierAdded UnaryExpression
    recorded ((0, 0) ∷ []) [] [] (run []
    (identified 1 codes.Instruction 0 ∷ leaf 2 kinds.LoadLocal (0 ∷ []) (0 ∷ []) ∷ row 1 codes.Instruction ∷
    leaf 2 kinds.UnaryExpression (0 ∷ []) [] ∷ identified 1 codes.Return 0 ∷ [])
    [] (0 ∷ []) ∷ []) ∷
    -- line 377: TrackingAdded BinaryExpression
    recorded ((0, 0) ∷ []) [] [] (run []
    (identified 1 codes.Instruction 0 ∷ leaf 2 kinds.BinaryExpression (0 ∷ 0 ∷ []) [] ∷ row 1 codes.Instruction ∷
    leaf 2 kinds.StoreGlobal (0 ∷ []) [] ∷ identified 1 codes.Return 0 ∷ [])
    [] (0 ∷ []) ∷ []) ∷
    -- line 379: TrackingAdded IteratorNext
    recorded ((0, 0) ∷ []) [] [] (run []
    (identified 1 codes.Instruction 0 ∷ leaf 2 kinds.IteratorNext (0 ∷ 0 ∷ []) [] ∷ row 1 codes.Instruction ∷
    leaf 2 kinds.CallExpression (0 ∷ []) [] ∷ identified 1 codes.Return 0 ∷ [])
    [] (0 ∷ []) ∷ []) ∷
    -- line 382: BarrierOmitted StoreLocal, ConstantAdded StoreLocal mode 2
    recorded ((0, 0) ∷ []) [] [] (run []
    (identified 1 codes.Instruction 0 ∷ mode_leaf 2 kinds.Destructure modes.Const (0 ∷ []) [] ∷ row 1 codes.Instruction ∷
    mode_leaf 2 kinds.StoreLocal modes.Reassign (0 ∷ []) (0 ∷ []) ∷ identified 1 codes.Return 0 ∷ [])
    ((0, reasons.Interposed) ∷ []) (2 ∷ []) ∷ []) ∷
    -- line 386: TrackingOmitted StoreLocal, ConstantAdded StoreLocal mode 1
    recorded ((0, 0) ∷ []) [] [] (run []
    (identified 1 codes.Instruction 0 ∷ mode_leaf 2 kinds.StoreLocal modes.Let (0 ∷ []) (0 ∷ []) ∷ row 1 codes.Instruction ∷
    leaf 2 kinds.PropertyDelete (0 ∷ []) [] ∷ identified 1 codes.Return 0 ∷ [])
    ((0, reasons.Interposed) ∷ []) (2 ∷ []) ∷ []) ∷
    -- line 388: ConstantOmitted Destructure mode 0, ConstantPromoted
    recorded ((0, 0) ∷ []) [] [] (run []
    (identified 1 codes.Instruction 0 ∷ mode_leaf 2 kinds.Destructure modes.Const (0 ∷ []) (0 ∷ []) ∷ row 1 codes.Instruction ∷
    leaf 2 kinds.CallExpression (0 ∷ []) [] ∷ identified 1 codes.Return 0 ∷ [])
    [] (0 ∷ []) ∷ []) ∷
    -- line 391: ConstantAdded Destructure mode 3
    recorded ((0, 0) ∷ []) [] [] (run []
    (identified 1 codes.Instruction 0 ∷ mode_leaf 2 kinds.Destructure modes.Catch (0 ∷ []) (0 ∷ []) ∷ row 1 codes.Instruction ∷
    leaf 2 kinds.PostfixUpdate (0 ∷ []) [] ∷ identified 1 codes.Return 0 ∷ [])
    ((0, reasons.Interposed) ∷ []) (2 ∷ []) ∷ []) ∷
    -- line 392: BarrierAdded BinaryExpression
    recorded ((0, 0) ∷ []) [] [] (run []
    (identified 1 codes.Instruction 0 ∷ leaf 2 kinds.PostfixUpdate (0 ∷ []) [] ∷ row 1 codes.Instruction ∷
    leaf 2 kinds.BinaryExpression (0 ∷ 0 ∷ []) [] ∷ identified 1 codes.Return 0 ∷ [])
    [] (0 ∷ []) ∷ []) ∷
    -- line 394: BarrierAdded IteratorNext
    recorded ((0, 0) ∷ []) [] [] (run []
    (identified 1 codes.Instruction 0 ∷ leaf 2 kinds.PropertyDelete (0 ∷ []) [] ∷ row 1 codes.Instruction ∷
    leaf 2 kinds.IteratorNext (0 ∷ 0 ∷ []) [] ∷ identified 1 codes.Return 0 ∷ [])
    [] (0 ∷ []) ∷ []) ∷
    -- line 399: ConstantOmitted StoreLocal mode 0
    recorded ((0, 0) ∷ []) [] [] (run []
    (identified 1 codes.Instruction 0 ∷ mode_leaf 2 kinds.StoreLocal modes.Const (0 ∷ []) (0 ∷ []) ∷ row 1 codes.Instruction ∷
    leaf 2 kinds.Await (0 ∷ []) [] ∷ identified 1 codes.Return 0 ∷ [])
    [] (0 ∷ []) ∷ []) ∷
    -- line 400: ConstantAdded StoreLocal mode 6
    recorded ((0, 0) ∷ []) [] [] (run []
    (identified 1 codes.Instruction 0 ∷ leaf 2 kinds.PostfixUpdate (0 ∷ []) [] ∷ row 1 codes.Instruction ∷
    mode_leaf 2 kinds.StoreLocal modes.HoistedFunction (0 ∷ []) (0 ∷ []) ∷ identified 1 codes.Return 0 ∷ [])
    ((0, reasons.Interposed) ∷ []) (2 ∷ []) ∷ []) ∷
    -- line 404: ConstantAdded StoreLocal mode 7
    recorded ((0, 0) ∷ []) [] [] (run []
    (identified 1 codes.Instruction 0 ∷ mode_leaf 2 kinds.StoreLocal modes.Function (0 ∷ []) (0 ∷ []) ∷ row 1 codes.Instruction ∷
    leaf 2 kinds.CallExpression (0 ∷ []) [] ∷ identified 1 codes.Return 0 ∷ [])
    ((0, reasons.Interposed) ∷ []) (2 ∷ []) ∷ []) ∷
    -- line 407: ConstantAdded StoreLocal mode 3
    recorded ((0, 0) ∷ []) [] [] (run []
    (identified 1 codes.Instruction 0 ∷ mode_leaf 2 kinds.StoreLocal modes.Catch (0 ∷ []) (0 ∷ []) ∷ row 1 codes.Instruction ∷
    leaf 2 kinds.PropertyDelete (0 ∷ []) [] ∷ identified 1 codes.Return 0 ∷ [])
    ((0, reasons.Interposed) ∷ []) (2 ∷ []) ∷ []) ∷
    -- line 411: TrackingAdded NewExpression
    recorded ((0, 0) ∷ []) [] [] (run []
    (identified 1 codes.Instruction 0 ∷ leaf 2 kinds.NewExpression (0 ∷ []) [] ∷ row 1 codes.Instruction ∷
    leaf 2 kinds.PropertyStore (0 ∷ 0 ∷ []) [] ∷ identified 1 codes.Return 0 ∷ [])
    [] (0 ∷ []) ∷ []) ∷
    -- line 412: BarrierWithNamedOmitted
    recorded ((0, 0) ∷ (1, 1) ∷ []) [] [] (run []
    (identified 1 codes.Instruction 0 ∷ leaf 2 kinds.CallExpression (0 ∷ []) [] ∷ identified 1 codes.Instruction 1 ∷
    leaf 2 kinds.CallExpression (0 ∷ []) [] ∷ identified 1 codes.Return 0 ∷ [])
    ((0, reasons.Interposed) ∷ []) (2 ∷ 1 ∷ []) ∷ []) ∷
    -- line 414: BarrierWithUnnamed
    recorded ((0, 0) ∷ (1, 0) ∷ []) [] [] (run []
    (identified 1 codes.Instruction 0 ∷ leaf 2 kinds.StoreGlobal (1 ∷ []) [] ∷ identified 1 codes.Instruction 1 ∷
    leaf 2 kinds.StoreGlobal (1 ∷ []) [] ∷ identified 1 codes.Return 0 ∷ [])
    [] (0 ∷ 0 ∷ []) ∷ []) ∷
    -- line 416: TrackingAdded DeclareContext
    recorded ((0, 0) ∷ (1, 0) ∷ []) [] [] (run []
    (identified 1 codes.Instruction 0 ∷ mode_leaf 2 kinds.DeclareContext modes.Const [] (1 ∷ []) ∷ row 1 codes.Instruction ∷
    leaf 2 kinds.PropertyDelete (0 ∷ []) [] ∷ identified 1 codes.Return 0 ∷ [])
    [] (0 ∷ 0 ∷ []) ∷ []) ∷
    -- line 421: InnerLast
    recorded ((0, 0) ∷ []) (((0 ∷ []), [], []) ∷ []) (((0 ∷ []), []) ∷ []) (run []
    (row 1 codes.Instruction ∷ function_leaf 2 kinds.ObjectMethod 0 [] ∷ numbered 1 codes.Scope 0 ∷ row 2 codes.Block ∷ [])
    ((0, reasons.InnerParameter) ∷ []) (2 ∷ []) ∷ []) ∷
    -- line 427: BarrierAdded ComputedLoad
    recorded ((0, 0) ∷ []) [] [] (run []
    (identified 1 codes.Instruction 0 ∷ leaf 2 kinds.CallExpression (0 ∷ []) [] ∷ row 1 codes.Instruction ∷
    leaf 2 kinds.ComputedLoad (0 ∷ 0 ∷ []) (0 ∷ []) ∷ identified 1 codes.Return 0 ∷ [])
    [] (0 ∷ []) ∷ []) ∷
    -- line 429: BarrierOmitted StoreContext, ConstantAdded StoreContext mode 7
    recorded ((0, 0) ∷ []) [] [] (run []
    (identified 1 codes.Instruction 0 ∷ leaf 2 kinds.CallExpression (0 ∷ []) [] ∷ row 1 codes.Instruction ∷
    mode_leaf 2 kinds.StoreContext modes.Function (0 ∷ 0 ∷ []) (0 ∷ []) ∷ identified 1 codes.Return 0 ∷ [])
    ((0, reasons.Interposed) ∷ []) (2 ∷ []) ∷ []) ∷
    -- line 432: TrackingOmitted ComputedLoad
    recorded ((0, 0) ∷ []) [] [] (run []
    (identified 1 codes.Instruction 0 ∷ leaf 2 kinds.ComputedLoad (0 ∷ 0 ∷ []) (0 ∷ []) ∷ row 1 codes.Instruction ∷
    leaf 2 kinds.PropertyDelete (0 ∷ []) [] ∷ identified 1 codes.Throw 0 ∷ [])
    ((0, reasons.Interposed) ∷ []) (2 ∷ []) ∷ []) ∷
    -- line 435: BarrierOmitted ComputedStore
    recorded ((0, 0) ∷ []) [] [] (run []
    (identified 1 codes.Instruction 0 ∷ leaf 2 kinds.CallExpression (0 ∷ []) [] ∷ row 1 codes.Instruction ∷
    leaf 2 kinds.ComputedStore (0 ∷ 0 ∷ 0 ∷ []) [] ∷ identified 1 codes.Return 0 ∷ [])
    ((0, reasons.Interposed) ∷ []) (2 ∷ []) ∷ []) ∷
    -- line 440: BarrierAdded LoadLocal
    recorded ((0, 0) ∷ []) [] [] (run []
    (identified 1 codes.Instruction 0 ∷ leaf 2 kinds.PropertyLoad (0 ∷ []) (0 ∷ []) ∷ row 1 codes.Instruction ∷
    leaf 2 kinds.LoadLocal (0 ∷ []) (0 ∷ []) ∷ identified 1 codes.Return 0 ∷ [])
    [] (0 ∷ []) ∷ []) ∷
    -- line 441: ConstantOmitted MethodCall mode 0
    recorded ((0, 0) ∷ []) [] [] (run []
    (identified 1 codes.Instruction 0 ∷ leaf 2 kinds.MethodCall (0 ∷ 0 ∷ []) (0 ∷ []) ∷ row 1 codes.Instruction ∷
    leaf 2 kinds.PropertyDelete (0 ∷ []) [] ∷ identified 1 codes.Return 0 ∷ [])
    [] (0 ∷ []) ∷ []) ∷
    -- line 442: ConstantAdded StoreContext mode 5
    recorded ((0, 0) ∷ []) [] [] (run []
    (identified 1 codes.Instruction 0 ∷ mode_leaf 2 kinds.Destructure modes.Const (0 ∷ []) [] ∷ row 1 codes.Instruction ∷
    mode_leaf 2 kinds.StoreContext modes.HoistedLet (0 ∷ 0 ∷ []) (0 ∷ []) ∷ identified 1 codes.Return 0 ∷ [])
    ((0, reasons.Interposed) ∷ []) (2 ∷ []) ∷ []) ∷
    -- line 453: TrackingOmitted StoreContext, ConstantAdded StoreContext mode 2
    recorded ((0, 0) ∷ []) [] [] (run []
    (identified 1 codes.Instruction 0 ∷ mode_leaf 2 kinds.StoreContext modes.Reassign (0 ∷ 0 ∷ []) (0 ∷ []) ∷
    row 1 codes.Instruction ∷ leaf 2 kinds.StoreGlobal (0 ∷ []) [] ∷ identified 1 codes.Return 0 ∷ [])
    ((0, reasons.Interposed) ∷ []) (2 ∷ []) ∷ []) ∷
    -- line 457: ConstantAdded StoreLocal mode 5
    recorded ((0, 0) ∷ []) [] [] (run []
    (identified 1 codes.Instruction 0 ∷ leaf 2 kinds.PropertyLoad (0 ∷ []) (0 ∷ []) ∷ row 1 codes.Instruction ∷
    mode_leaf 2 kinds.StoreLocal modes.HoistedLet (0 ∷ []) (0 ∷ []) ∷ identified 1 codes.Return 0 ∷ [])
    ((0, reasons.Interposed) ∷ []) (2 ∷ []) ∷ []) ∷
    -- line 464: ConstantAdded StoreContext mode 6
    recorded ((0, 0) ∷ []) [] [] (run []
    (identified 1 codes.Instruction 0 ∷ leaf 2 kinds.PostfixUpdate (0 ∷ []) [] ∷ row 1 codes.Instruction ∷
    mode_leaf 2 kinds.StoreContext modes.HoistedFunction (0 ∷ 0 ∷ []) (0 ∷ []) ∷ identified 1 codes.Return 0 ∷ [])
    ((0, reasons.Interposed) ∷ []) (2 ∷ []) ∷ []) ∷
    -- line 465: TrackingOmitted ComputedStore
    recorded ((0, 0) ∷ []) [] [] (run []
    (identified 1 codes.Instruction 0 ∷ leaf 2 kinds.ComputedStore (0 ∷ 0 ∷ 0 ∷ []) [] ∷ row 1 codes.Instruction ∷
    leaf 2 kinds.PrefixUpdate (0 ∷ []) [] ∷ identified 1 codes.Return 0 ∷ [])
    ((0, reasons.Interposed) ∷ []) (2 ∷ []) ∷ []) ∷
    -- line 487: NamedAtStart
    recorded ((0, 0) ∷ (1, 0) ∷ []) [] [] (run (1 ∷ [])
    (identified 1 codes.Instruction 0 ∷ leaf 2 kinds.CallExpression (0 ∷ []) [] ∷ identified 1 codes.Instruction 1 ∷
    leaf 2 kinds.PrefixUpdate (0 ∷ []) [] ∷ identified 1 codes.Return 0 ∷ [])
    ((1, reasons.OwnParameter) ∷ (0, reasons.Interposed) ∷ []) (2 ∷ 2 ∷ []) ∷ []) ∷
    -- line 489: InstancesOfInterposedOmitted
    recorded ((0, 0) ∷ (0, 0) ∷ []) [] [] (run []
    (identified 1 codes.Instruction 0 ∷ leaf 2 kinds.LoadLocal (1 ∷ []) (1 ∷ []) ∷ row 1 codes.Instruction ∷
    leaf 2 kinds.PropertyDelete (0 ∷ []) [] ∷ identified 1 codes.Return 0 ∷ [])
    ((0, reasons.Interposed) ∷ (1, reasons.SameDeclaration) ∷ []) (2 ∷ 2 ∷ []) ∷ []) ∷
    -- line 492: BarrierAdded ObjectMethod
    recorded ((0, 0) ∷ []) [] (([], []) ∷ []) (run []
    (identified 1 codes.Instruction 0 ∷ leaf 2 kinds.PropertyDelete (0 ∷ []) [] ∷ row 1 codes.Instruction ∷
    function_leaf 2 kinds.ObjectMethod 0 [] ∷ identified 1 codes.Return 0 ∷ [])
    [] (0 ∷ []) ∷ []) ∷
    -- line 494: BarrierAdded DeclareContext
    recorded ((0, 0) ∷ (1, 0) ∷ []) [] [] (run []
    (identified 1 codes.Instruction 0 ∷ leaf 2 kinds.LoadContext (0 ∷ []) (0 ∷ []) ∷ row 1 codes.Instruction ∷
    mode_leaf 2 kinds.DeclareContext modes.Const [] (1 ∷ []) ∷ identified 1 codes.Return 0 ∷ [])
    [] (0 ∷ 0 ∷ []) ∷ []) ∷
    -- line 496: ConstantStoreIsBarrier StoreLocal mode 4
    recorded ((0, 0) ∷ (1, 0) ∷ []) [] [] (run []
    (identified 1 codes.Instruction 0 ∷ leaf 2 kinds.PostfixUpdate (0 ∷ []) [] ∷ row 1 codes.Instruction ∷
    mode_leaf 2 kinds.StoreLocal modes.HoistedConst (1 ∷ []) (1 ∷ []) ∷ identified 1 codes.Return 0 ∷ [])
    [] (0 ∷ 0 ∷ []) ∷ []) ∷
    -- line 498: ConstantStoreIsBarrier StoreLocal mode 0
    recorded ((0, 0) ∷ (1, 0) ∷ []) [] [] (run []
    (identified 1 codes.Instruction 1 ∷ leaf 2 kinds.Await (1 ∷ []) [] ∷ row 1 codes.Instruction ∷
    mode_leaf 2 kinds.StoreLocal modes.Const (0 ∷ []) (0 ∷ []) ∷ identified 1 codes.Return 1 ∷ [])
    [] (0 ∷ 0 ∷ []) ∷ []) ∷
    -- line 502: ConstantAdded StoreContext mode 1
    recorded ((0, 0) ∷ []) [] [] (run []
    (identified 1 codes.Instruction 0 ∷ leaf 2 kinds.LoadLocal (0 ∷ []) (0 ∷ []) ∷ row 1 codes.Instruction ∷
    mode_leaf 2 kinds.StoreContext modes.Let (0 ∷ 0 ∷ []) (0 ∷ []) ∷ identified 1 codes.Return 0 ∷ [])
    ((0, reasons.Interposed) ∷ []) (2 ∷ []) ∷ []) ∷
    -- line 508: ConstantOmitted Destructure mode 4
    recorded ((0, 0) ∷ []) [] [] (run []
    (identified 1 codes.Instruction 0 ∷ mode_leaf 2 kinds.Destructure modes.HoistedConst (0 ∷ []) (0 ∷ []) ∷
    row 1 codes.Instruction ∷ mode_leaf 2 kinds.StoreContext modes.Catch (0 ∷ 0 ∷ []) (0 ∷ []) ∷ identified 1 codes.Return 0 ∷ [])
    [] (0 ∷ []) ∷ []) ∷
    -- line 514: ConstantAdded StoreContext mode 3
    recorded ((0, 0) ∷ []) [] [] (run []
    (identified 1 codes.Instruction 0 ∷ leaf 2 kinds.PropertyStore (0 ∷ 0 ∷ []) [] ∷ row 1 codes.Instruction ∷
    mode_leaf 2 kinds.StoreContext modes.Catch (0 ∷ 0 ∷ []) (0 ∷ []) ∷ identified 1 codes.Return 0 ∷ [])
    ((0, reasons.Interposed) ∷ []) (2 ∷ []) ∷ []) ∷
    -- line 518: ConstantAdded Destructure mode 7
    recorded ((0, 0) ∷ []) [] [] (run []
    (identified 1 codes.Instruction 0 ∷ leaf 2 kinds.ComputedLoad (0 ∷ 0 ∷ []) (0 ∷ []) ∷ row 1 codes.Instruction ∷
    mode_leaf 2 kinds.Destructure modes.Function (0 ∷ []) (0 ∷ []) ∷ identified 1 codes.Return 0 ∷ [])
    ((0, reasons.Interposed) ∷ []) (2 ∷ []) ∷ []) ∷
    -- line 527: ConstantAdded Destructure mode 5
    recorded ((0, 0) ∷ []) [] [] (run []
    (identified 1 codes.Instruction 0 ∷ mode_leaf 2 kinds.Destructure modes.HoistedLet (0 ∷ []) (0 ∷ []) ∷
    row 1 codes.Instruction ∷ mode_leaf 2 kinds.StoreContext modes.Reassign (0 ∷ 0 ∷ []) (0 ∷ []) ∷
    identified 1 codes.Return 0 ∷ [])
    ((0, reasons.Interposed) ∷ []) (2 ∷ []) ∷ []) ∷
    -- line 535: BarrierAdded FunctionExpression
    recorded ((0, 0) ∷ []) [] (([], []) ∷ []) (run []
    (identified 1 codes.Instruction 0 ∷ leaf 2 kinds.PropertyStore (0 ∷ 0 ∷ []) [] ∷ row 1 codes.Instruction ∷
    function_leaf 2 kinds.FunctionExpression 0 [] ∷ identified 1 codes.Return 0 ∷ [])
    [] (0 ∷ []) ∷ []) ∷
    -- line 536: UseOmitted Collect Return, EscapeOmitted
    recorded ((0, 0) ∷ []) (([], (0 ∷ []), []) ∷ []) [] (run []
    (numbered 1 codes.Pruned 0 ∷ row 2 codes.Block ∷ numbered 1 codes.Scope 0 ∷ row 2 codes.Block ∷ identified 3 codes.Return 0 ∷ [])
    ((0, reasons.Escape) ∷ []) (2 ∷ []) ∷ []) ∷
    -- line 538: ParametersNotConstant, ConstantNotHandedOn LoadLocal
    recorded ((0, 0) ∷ (1, 0) ∷ []) [] [] (run (1 ∷ [])
    (identified 1 codes.Instruction 0 ∷ leaf 2 kinds.LoadLocal (1 ∷ []) (1 ∷ []) ∷ row 1 codes.Instruction ∷
    leaf 2 kinds.CallExpression (0 ∷ []) [] ∷ identified 1 codes.Return 0 ∷ [])
    ((1, reasons.OwnParameter) ∷ []) (0 ∷ 2 ∷ []) ∷ []) ∷
    -- line 539: UseOmitted Collect Switch
    recorded ((0, 0) ∷ []) (([], (0 ∷ []), []) ∷ []) [] (run []
    (numbered 1 codes.Pruned 0 ∷ row 2 codes.Block ∷ numbered 1 codes.Scope 0 ∷ row 2 codes.Block ∷ identified 3 codes.Switch 0 ∷ [])
    ((0, reasons.Escape) ∷ []) (2 ∷ []) ∷ []) ∷
    -- line 541: TrackedByDeclaration
    recorded ((1, 0) ∷ (1, 0) ∷ []) [] [] (run []
    (identified 1 codes.Instruction 0 ∷ leaf 2 kinds.PropertyLoad (1 ∷ []) (1 ∷ []) ∷ row 1 codes.Instruction ∷
    leaf 2 kinds.ComputedDelete (1 ∷ 1 ∷ []) [] ∷ identified 1 codes.Return 1 ∷ [])
    [] (0 ∷ 0 ∷ []) ∷ []) ∷
    -- line 544: ConstantByDeclaration
    recorded ((1, 0) ∷ (1, 0) ∷ []) [] [] (run (0 ∷ [])
    (identified 1 codes.Instruction 1 ∷ leaf 2 kinds.CallExpression (0 ∷ []) [] ∷ row 1 codes.Instruction ∷
    leaf 2 kinds.ComputedDelete (0 ∷ 0 ∷ []) [] ∷ identified 1 codes.Return 1 ∷ [])
    ((0, reasons.OwnParameter) ∷ (1, reasons.Interposed) ∷ []) (2 ∷ 2 ∷ []) ∷ []) ∷
    -- line 545: ConstantHandedByProperty PropertyLoad
    recorded ((0, 0) ∷ (1, 0) ∷ []) [] [] (run (0 ∷ [])
    (identified 1 codes.Instruction 1 ∷ leaf 2 kinds.PropertyLoad (0 ∷ []) (0 ∷ []) ∷ row 1 codes.Instruction ∷
    leaf 2 kinds.PropertyDelete (0 ∷ []) [] ∷ identified 1 codes.Return 1 ∷ [])
    ((0, reasons.OwnParameter) ∷ (1, reasons.Interposed) ∷ []) (2 ∷ 2 ∷ []) ∷ []) ∷
    -- line 554: ConstantNotHandedOn LoadContext
    recorded ((0, 0) ∷ (1, 0) ∷ []) [] [] (run (0 ∷ [])
    (identified 1 codes.Instruction 1 ∷ leaf 2 kinds.LoadContext (0 ∷ []) (0 ∷ []) ∷ row 1 codes.Instruction ∷
    leaf 2 kinds.StoreGlobal (0 ∷ []) [] ∷ identified 1 codes.Return 1 ∷ [])
    ((0, reasons.OwnParameter) ∷ []) (2 ∷ 0 ∷ []) ∷ []) ∷
    -- line 556: BarrierOmitted MethodCall
    recorded ((0, 0) ∷ (1, 0) ∷ []) [] [] (run []
    (identified 1 codes.Instruction 0 ∷ leaf 2 kinds.CallExpression (1 ∷ []) [] ∷ row 1 codes.Instruction ∷
    leaf 2 kinds.MethodCall (1 ∷ 1 ∷ []) (1 ∷ []) ∷ identified 1 codes.Return 0 ∷ [])
    ((0, reasons.Interposed) ∷ []) (2 ∷ 0 ∷ []) ∷ []) ∷
    -- line 562: TrackingOmitted MethodCall
    recorded ((0, 0) ∷ (1, 0) ∷ []) [] [] (run []
    (identified 1 codes.Instruction 0 ∷ leaf 2 kinds.MethodCall (0 ∷ 1 ∷ []) (1 ∷ []) ∷ row 1 codes.Instruction ∷
    leaf 2 kinds.CallExpression (1 ∷ []) [] ∷ identified 1 codes.Return 0 ∷ [])
    ((0, reasons.Interposed) ∷ []) (2 ∷ 0 ∷ []) ∷ []) ∷
    -- line 564: UseOmitted Collect Throw
    recorded ((0, 0) ∷ []) (([], (0 ∷ []), []) ∷ []) [] (run []
    (numbered 1 codes.Pruned 0 ∷ row 2 codes.Block ∷ numbered 1 codes.Scope 0 ∷ row 2 codes.Block ∷ identified 3 codes.Throw 0 ∷ [])
    ((0, reasons.Escape) ∷ []) (2 ∷ []) ∷ []) ∷
    -- line 568: ConstantStoreIsBarrier StoreContext mode 4
    recorded ((0, 0) ∷ (1, 0) ∷ []) [] [] (run []
    (identified 1 codes.Instruction 0 ∷ leaf 2 kinds.CallExpression (0 ∷ []) [] ∷ row 1 codes.Instruction ∷
    mode_leaf 2 kinds.StoreContext modes.HoistedConst (1 ∷ 0 ∷ []) (1 ∷ []) ∷ identified 1 codes.Return 0 ∷ [])
    [] (0 ∷ 0 ∷ []) ∷ []) ∷
    -- line 570: ConstantStoreIsBarrier StoreContext mode 0
    recorded ((0, 0) ∷ (1, 0) ∷ []) [] [] (run []
    (identified 1 codes.Instruction 1 ∷ leaf 2 kinds.PropertyDelete (0 ∷ []) [] ∷ row 1 codes.Instruction ∷
    mode_leaf 2 kinds.StoreContext modes.Const (0 ∷ 0 ∷ []) (0 ∷ []) ∷ identified 1 codes.Return 1 ∷ [])
    [] (0 ∷ 0 ∷ []) ∷ []) ∷
    -- line 598: ConstantHandedByProperty ComputedLoad
    recorded ((0, 0) ∷ (1, 0) ∷ []) [] [] (run (1 ∷ [])
    (identified 1 codes.Instruction 0 ∷ leaf 2 kinds.ComputedLoad (1 ∷ 0 ∷ []) (1 ∷ []) ∷ row 1 codes.Instruction ∷
    leaf 2 kinds.PrefixUpdate (0 ∷ []) [] ∷ identified 1 codes.Return 0 ∷ [])
    ((1, reasons.OwnParameter) ∷ (0, reasons.Interposed) ∷ []) (2 ∷ 2 ∷ []) ∷ []) ∷
    -- line 627: EscapeByIdentifier
    recorded ((0, 0) ∷ (0, 0) ∷ []) (([], (0 ∷ []), []) ∷ []) [] (run []
    (numbered 1 codes.Pruned 0 ∷ row 2 codes.Block ∷ numbered 1 codes.Scope 0 ∷ row 2 codes.Block ∷ identified 3 codes.Return 1 ∷ [])
    ((0, reasons.Escape) ∷ (1, reasons.SameDeclaration) ∷ []) (2 ∷ 2 ∷ []) ∷ []) ∷
    -- line 646: EscapeOfDependencies
    recorded ((0, 0) ∷ (0, 0) ∷ []) (((1 ∷ []), (0 ∷ []), []) ∷ []) [] (run []
    (numbered 1 codes.Pruned 0 ∷ row 2 codes.Block ∷ numbered 1 codes.Scope 0 ∷ row 2 codes.Block ∷ identified 3 codes.Return 1 ∷ [])
    ((0, reasons.Escape) ∷ (1, reasons.Scope) ∷ []) (2 ∷ 2 ∷ []) ∷ []) ∷
    -- line 650: LeafActsUnder Optional
    recorded ((0, 0) ∷ []) [] [] (run []
    (identified 1 codes.Instruction 0 ∷ leaf 2 kinds.Await (0 ∷ []) [] ∷ row 1 codes.Instruction ∷ row 2 codes.Optional ∷
    leaf 3 kinds.PropertyDelete (0 ∷ []) [] ∷ identified 1 codes.Return 0 ∷ [])
    [] (0 ∷ []) ∷ []) ∷
    -- line 654: LeafActsUnder DoWhile
    recorded ((0, 0) ∷ []) [] [] (run []
    (identified 1 codes.Instruction 0 ∷ leaf 2 kinds.CallExpression (0 ∷ []) [] ∷ row 1 codes.DoWhile ∷ row 2 codes.Block ∷
    leaf 2 kinds.PropertyDelete (0 ∷ []) [] ∷ identified 1 codes.Return 0 ∷ [])
    [] (0 ∷ []) ∷ []) ∷
    -- line 655: TrackingAdded JsxFragment
    recorded ((0, 0) ∷ []) [] [] (run []
    (identified 1 codes.Instruction 0 ∷ leaf 2 kinds.JsxFragment [] [] ∷ row 1 codes.Instruction ∷
    leaf 2 kinds.StoreGlobal (0 ∷ []) [] ∷ row 1 codes.Instruction ∷ leaf 2 kinds.PropertyDelete (0 ∷ []) [] ∷ [])
    [] (0 ∷ []) ∷ []) ∷
    -- line 657: UseOmitted Interposed If
    recorded ((0, 0) ∷ []) [] [] (run []
    (identified 1 codes.Instruction 0 ∷ leaf 2 kinds.StoreGlobal (0 ∷ []) [] ∷ row 1 codes.Instruction ∷
    leaf 2 kinds.PropertyDelete (0 ∷ []) [] ∷ identified 1 codes.If 0 ∷ row 2 codes.Block ∷ [])
    ((0, reasons.Interposed) ∷ []) (2 ∷ []) ∷ []) ∷
    -- line 658: TrackingAdded MetaProperty
    recorded ((0, 0) ∷ []) [] [] (run []
    (identified 1 codes.Instruction 0 ∷ leaf 2 kinds.MetaProperty [] [] ∷ row 1 codes.Instruction ∷
    leaf 2 kinds.PostfixUpdate (0 ∷ []) [] ∷ row 1 codes.Instruction ∷ leaf 2 kinds.Await (0 ∷ []) [] ∷ [])
    [] (0 ∷ []) ∷ []) ∷
    -- line 659: TrackingAdded StartMemoize
    recorded ((0, 0) ∷ []) [] [] (run []
    (identified 1 codes.Instruction 0 ∷ leaf 2 kinds.StartMemoize [] [] ∷ row 1 codes.Instruction ∷
    leaf 2 kinds.PostfixUpdate (0 ∷ []) [] ∷ row 1 codes.Instruction ∷ leaf 2 kinds.StoreGlobal (0 ∷ []) [] ∷ [])
    [] (0 ∷ []) ∷ []) ∷
    -- line 672: TrackingAdded ObjectExpression
    recorded ((0, 0) ∷ []) [] [] (run []
    (identified 1 codes.Instruction 0 ∷ leaf 2 kinds.ObjectExpression [] [] ∷ row 1 codes.Instruction ∷
    leaf 2 kinds.PropertyDelete (0 ∷ []) [] ∷ row 1 codes.Instruction ∷ leaf 2 kinds.CallExpression (0 ∷ []) [] ∷ [])
    [] (0 ∷ []) ∷ []) ∷
    -- line 684: TrackingAdded TemplateLiteral
    recorded ((0, 0) ∷ []) [] [] (run []
    (identified 1 codes.Instruction 0 ∷ leaf 2 kinds.TemplateLiteral [] [] ∷ row 1 codes.Instruction ∷
    leaf 2 kinds.PrefixUpdate (0 ∷ []) [] ∷ row 1 codes.Instruction ∷ leaf 2 kinds.ObjectExpression (0 ∷ []) [] ∷ [])
    [] (0 ∷ []) ∷ []) ∷
    -- line 695: ScopeReassignmentsSecond
    recorded ((1, 0) ∷ (1, 0) ∷ (1, 0) ∷ []) (([], (1 ∷ []), []) ∷ ((2 ∷ []), [], (0 ∷ [])) ∷ []) [] (run []
    (numbered 1 codes.Scope 0 ∷ row 2 codes.Block ∷ numbered 3 codes.Pruned 1 ∷ row 4 codes.Block ∷ [])
    ((1, reasons.Scope) ∷ (2, reasons.SameDeclaration) ∷ (0, reasons.SameDeclaration) ∷ []) (2 ∷ 2 ∷ 2 ∷ []) ∷ []) ∷
    -- line 701: LvalueIsUse(Interposed)
    recorded ((0, 0) ∷ []) [] [] (run []
    (identified 1 codes.Instruction 0 ∷ leaf 2 kinds.LoadContext (0 ∷ []) (0 ∷ []) ∷ row 1 codes.Instruction ∷
    leaf 2 kinds.CallExpression (0 ∷ []) [] ∷ identified 1 codes.Instruction 0 ∷ leaf 2 kinds.Primitive [] [] ∷ [])
    [] (0 ∷ []) ∷ []) ∷
    -- line 702: UseOmitted Interposed Leaf
    recorded ((0, 0) ∷ []) [] [] (run []
    (identified 1 codes.Instruction 0 ∷ leaf 2 kinds.CallExpression (0 ∷ []) [] ∷ row 1 codes.Instruction ∷
    leaf 2 kinds.PrefixUpdate (0 ∷ []) [] ∷ row 1 codes.Instruction ∷ leaf 2 kinds.CallExpression (0 ∷ []) [] ∷ [])
    ((0, reasons.Interposed) ∷ []) (2 ∷ []) ∷ []) ∷
    -- line 703: TrackingBeforeUses
    recorded ((0, 0) ∷ []) [] [] (run []
    (identified 1 codes.Instruction 0 ∷ leaf 2 kinds.CallExpression (0 ∷ []) [] ∷ row 1 codes.Instruction ∷
    leaf 2 kinds.PrefixUpdate (0 ∷ []) [] ∷ identified 1 codes.Instruction 0 ∷ leaf 2 kinds.CallExpression (0 ∷ []) [] ∷ [])
    ((0, reasons.Interposed) ∷ []) (2 ∷ []) ∷ []) ∷
    -- line 730: TrackingAdded TaggedTemplateExpression
    recorded ((0, 0) ∷ []) [] [] (run []
    (identified 1 codes.Instruction 0 ∷ leaf 2 kinds.TaggedTemplateExpression (0 ∷ []) [] ∷ row 1 codes.Instruction ∷
    leaf 2 kinds.PropertyDelete (0 ∷ []) [] ∷ row 1 codes.Instruction ∷ leaf 2 kinds.UnaryExpression (0 ∷ []) [] ∷ [])
    [] (0 ∷ []) ∷ []) ∷
    -- line 741: LeafActsUnder ForIn
    recorded ((0, 0) ∷ []) [] [] (run []
    (identified 1 codes.Instruction 0 ∷ leaf 2 kinds.PropertyDelete (0 ∷ []) [] ∷ row 1 codes.ForIn ∷
    leaf 2 kinds.PropertyStore (0 ∷ 0 ∷ []) [] ∷ row 2 codes.Block ∷ identified 3 codes.Return 0 ∷ [])
    [] (0 ∷ []) ∷ []) ∷
    -- line 745: TrackingAdded UnaryExpression
    recorded ((0, 0) ∷ []) [] [] (run []
    (identified 1 codes.Instruction 0 ∷ leaf 2 kinds.UnaryExpression (0 ∷ []) [] ∷ row 1 codes.Instruction ∷
    leaf 2 kinds.CallExpression (0 ∷ []) [] ∷ row 1 codes.Instruction ∷ mode_leaf 2 kinds.Destructure modes.Const (0 ∷ []) [] ∷ [])
    [] (0 ∷ []) ∷ []) ∷
    -- line 750: TrackingAdded GetIterator
    recorded ((0, 0) ∷ []) [] [] (run []
    (identified 1 codes.Instruction 0 ∷ leaf 2 kinds.GetIterator (0 ∷ []) [] ∷ row 1 codes.Instruction ∷
    leaf 2 kinds.PrefixUpdate (0 ∷ []) [] ∷ row 1 codes.Instruction ∷ leaf 2 kinds.Await (0 ∷ []) [] ∷ [])
    [] (0 ∷ []) ∷ []) ∷
    -- line 754: LeafActsUnder ForOf
    recorded ((0, 0) ∷ []) [] [] (run []
    (identified 1 codes.Instruction 0 ∷ leaf 2 kinds.Await (0 ∷ []) [] ∷ row 1 codes.ForOf ∷
    leaf 2 kinds.PropertyDelete (0 ∷ []) [] ∷ leaf 2 kinds.PropertyDelete (0 ∷ []) [] ∷ row 2 codes.Block ∷ [])
    [] (0 ∷ []) ∷ []) ∷
    -- line 769: TrackingAdded TypeCastExpression
    recorded ((0, 0) ∷ []) [] [] (run []
    (identified 1 codes.Instruction 0 ∷ leaf 2 kinds.TypeCastExpression (0 ∷ []) [] ∷ row 1 codes.Instruction ∷
    leaf 2 kinds.StoreGlobal (0 ∷ []) [] ∷ row 1 codes.Instruction ∷ leaf 2 kinds.NewExpression (0 ∷ []) [] ∷ [])
    [] (0 ∷ []) ∷ []) ∷
    -- line 773: UseOmitted Interposed Case
    recorded ((0, 0) ∷ (1, 0) ∷ []) [] [] (run []
    (identified 1 codes.Instruction 0 ∷ leaf 2 kinds.PostfixUpdate (0 ∷ []) [] ∷ row 1 codes.Instruction ∷
    mode_leaf 2 kinds.Destructure modes.HoistedFunction (1 ∷ []) [] ∷ identified 1 codes.Switch 1 ∷ identified 2 codes.Case 0 ∷ [])
    ((0, reasons.Interposed) ∷ []) (2 ∷ 0 ∷ []) ∷ []) ∷
    -- line 777: EscapeByEarlierUse
    recorded ((0, 0) ∷ []) (([], [], []) ∷ ([], (0 ∷ []), []) ∷ []) [] (run []
    (numbered 1 codes.Scope 0 ∷ row 2 codes.Block ∷ identified 3 codes.Return 0 ∷ numbered 1 codes.Pruned 1 ∷ row 2 codes.Block ∷ [])
    [] (0 ∷ []) ∷ []) ∷
    -- line 799: ConstantAfterUses
    recorded ((0, 0) ∷ []) [] [] (run []
    (identified 1 codes.Instruction 0 ∷ leaf 2 kinds.StoreGlobal (0 ∷ []) [] ∷ row 1 codes.Instruction ∷
    leaf 2 kinds.PropertyDelete (0 ∷ []) [] ∷ row 1 codes.Instruction ∷
    mode_leaf 2 kinds.Destructure modes.Const (0 ∷ []) (0 ∷ []) ∷ [])
    [] (0 ∷ []) ∷ []) ∷
    -- line 831: ConstantAdded Destructure mode 1
    recorded ((0, 0) ∷ []) [] [] (run []
    (identified 1 codes.Instruction 0 ∷ mode_leaf 2 kinds.Destructure modes.Let (0 ∷ []) (0 ∷ []) ∷ row 1 codes.Instruction ∷
    leaf 2 kinds.PrefixUpdate (0 ∷ []) [] ∷ row 1 codes.Instruction ∷ leaf 2 kinds.PostfixUpdate (0 ∷ []) [] ∷ [])
    ((0, reasons.Interposed) ∷ []) (2 ∷ []) ∷ []) ∷
    -- line 834: ConstantOmitted StoreLocal mode 4
    recorded ((0, 0) ∷ []) [] [] (run []
    (identified 1 codes.Instruction 0 ∷ mode_leaf 2 kinds.StoreLocal modes.HoistedConst (0 ∷ []) (0 ∷ []) ∷
    row 1 codes.Instruction ∷ leaf 2 kinds.CallExpression (0 ∷ []) [] ∷ row 1 codes.Instruction ∷
    leaf 2 kinds.UnaryExpression (0 ∷ []) [] ∷ [])
    [] (0 ∷ []) ∷ []) ∷
    -- line 845: MarkIsUse(Interposed)
    recorded ((0, 0) ∷ []) [] [] (run []
    (identified 1 codes.Instruction 0 ∷ leaf 2 kinds.PropertyLoad (0 ∷ []) (0 ∷ []) ∷ row 1 codes.Instruction ∷
    leaf 2 kinds.Await (0 ∷ []) [] ∷ row 1 codes.Instruction ∷ mode_leaf 2 kinds.DeclareLocal modes.Function [] (0 ∷ []) ∷ [])
    [] (0 ∷ []) ∷ []) ∷
    -- line 846: TrackingAdded DeclareLocal
    recorded ((0, 0) ∷ []) [] [] (run []
    (identified 1 codes.Instruction 0 ∷ mode_leaf 2 kinds.DeclareLocal modes.Function [] (0 ∷ []) ∷ row 1 codes.Instruction ∷
    leaf 2 kinds.PrefixUpdate (0 ∷ []) [] ∷ row 1 codes.Instruction ∷ leaf 2 kinds.PropertyStore (0 ∷ 0 ∷ []) [] ∷ [])
    [] (0 ∷ []) ∷ []) ∷
    -- line 856: TrackingOnce, TrackingAfterUses LoadLocal
    recorded ((0, 0) ∷ []) [] [] (run []
    (identified 1 codes.Instruction 0 ∷ leaf 2 kinds.PrefixUpdate (0 ∷ []) [] ∷ row 1 codes.Instruction ∷
    leaf 2 kinds.CallExpression (0 ∷ []) [] ∷ identified 1 codes.Instruction 0 ∷ leaf 2 kinds.LoadLocal (0 ∷ []) (0 ∷ []) ∷ [])
    [] (0 ∷ []) ∷ []) ∷
    -- line 871: TrackingAfterUses PropertyLoad
    recorded ((0, 0) ∷ []) [] [] (run []
    (identified 1 codes.Instruction 0 ∷ leaf 2 kinds.StoreGlobal (0 ∷ []) [] ∷ row 1 codes.Instruction ∷
    leaf 2 kinds.PropertyDelete (0 ∷ []) [] ∷ identified 1 codes.Instruction 0 ∷ leaf 2 kinds.PropertyLoad (0 ∷ []) (0 ∷ []) ∷ [])
    [] (0 ∷ []) ∷ []) ∷
    -- line 936: ScopeDependenciesFirst
    recorded ((2, 0) ∷ (1, 0) ∷ (2, 0) ∷ (1, 0) ∷ []) (([], (0 ∷ 3 ∷ []), []) ∷ ((1 ∷ []), (2 ∷ []), []) ∷ []) [] (run []
    (numbered 1 codes.Scope 0 ∷ row 2 codes.Block ∷ numbered 3 codes.Pruned 1 ∷ row 4 codes.Block ∷ [])
    ((0, reasons.Scope) ∷ (3, reasons.Scope) ∷ (2, reasons.SameDeclaration) ∷ (1, reasons.SameDeclaration) ∷ []) (2 ∷ 2 ∷ 2 ∷ 2 ∷ []) ∷ []) ∷
    -- line 970: LeafActsUnder For
    recorded ((0, 0) ∷ []) [] [] (run []
    (identified 1 codes.Instruction 0 ∷ mode_leaf 2 kinds.Destructure modes.Const (0 ∷ []) [] ∷ row 1 codes.For ∷
    mode_leaf 2 kinds.StoreLocal modes.Catch (0 ∷ []) (0 ∷ []) ∷ leaf 2 kinds.PropertyStore (0 ∷ 0 ∷ []) [] ∷
    row 2 codes.Block ∷ [])
    [] (0 ∷ []) ∷ []) ∷
    -- line 983: LeafActsUnder Logical
    recorded ((0, 0) ∷ []) [] [] (run []
    (identified 1 codes.Instruction 0 ∷ leaf 2 kinds.PropertyLoad (0 ∷ []) (0 ∷ []) ∷ row 1 codes.Instruction ∷
    row 2 codes.Logical ∷ leaf 3 kinds.ComputedDelete (0 ∷ 0 ∷ []) [] ∷ leaf 3 kinds.StoreGlobal (0 ∷ []) [] ∷ [])
    [] (0 ∷ []) ∷ []) ∷
    -- line 988: TrackingAfterUses LoadContext
    recorded ((0, 0) ∷ []) [] [] (run []
    (identified 1 codes.Instruction 0 ∷ leaf 2 kinds.LoadContext (0 ∷ []) (0 ∷ []) ∷ row 1 codes.Instruction ∷
    leaf 2 kinds.CallExpression (0 ∷ []) [] ∷ identified 1 codes.Instruction 0 ∷ leaf 2 kinds.LoadContext (0 ∷ []) (0 ∷ []) ∷ [])
    [] (0 ∷ []) ∷ []) ∷
    -- line 1007: ConstantOmitted StoreContext mode 4
    recorded ((0, 0) ∷ []) [] [] (run []
    (identified 1 codes.Instruction 0 ∷ leaf 2 kinds.Await (0 ∷ []) [] ∷ row 1 codes.Instruction ∷
    leaf 2 kinds.PrefixUpdate (0 ∷ []) [] ∷ row 1 codes.Instruction ∷
    mode_leaf 2 kinds.StoreContext modes.HoistedConst (0 ∷ 0 ∷ []) (0 ∷ []) ∷ [])
    [] (0 ∷ []) ∷ []) ∷
    -- line 1027: ConstantOmitted StoreContext mode 0
    recorded ((0, 0) ∷ []) [] [] (run []
    (identified 1 codes.Instruction 0 ∷ leaf 2 kinds.PostfixUpdate (0 ∷ []) [] ∷ row 1 codes.Instruction ∷
    leaf 2 kinds.CallExpression (0 ∷ []) [] ∷ row 1 codes.Instruction ∷
    mode_leaf 2 kinds.StoreContext modes.Const (0 ∷ 0 ∷ []) (0 ∷ []) ∷ [])
    [] (0 ∷ []) ∷ []) ∷
    -- line 1095: TrackingKept
    recorded ((0, 0) ∷ []) [] [] (run []
    (identified 1 codes.Instruction 0 ∷ leaf 2 kinds.PropertyLoad (0 ∷ []) (0 ∷ []) ∷ row 1 codes.Instruction ∷
    leaf 2 kinds.PostfixUpdate (0 ∷ []) [] ∷ [])
    [] (0 ∷ []) ∷ run []
    (identified 1 codes.Return 0 ∷ [])
    [] (0 ∷ []) ∷ []) ∷
    -- line 1102: UseOmitted Collect If
    recorded ((0, 0) ∷ []) (([], (0 ∷ []), []) ∷ []) [] (run []
    (numbered 1 codes.Pruned 0 ∷ row 2 codes.Block ∷ numbered 1 codes.Scope 0 ∷ row 2 codes.Block ∷ identified 3 codes.If 0 ∷
    row 4 codes.Block ∷ [])
    ((0, reasons.Escape) ∷ []) (2 ∷ []) ∷ []) ∷
    -- line 1109: TrackingAdded FunctionExpression
    recorded ((0, 0) ∷ []) [] (([], []) ∷ []) (run []
    (identified 1 codes.Instruction 0 ∷ function_leaf 2 kinds.FunctionExpression 0 [] ∷ row 1 codes.Instruction ∷
    leaf 2 kinds.Await (0 ∷ []) [] ∷ row 1 codes.Instruction ∷ leaf 2 kinds.CallExpression (0 ∷ []) [] ∷ [])
    [] (0 ∷ []) ∷ []) ∷
    -- line 1111: LvalueIsUse(Collect)
    recorded ((0, 0) ∷ []) (([], (0 ∷ []), []) ∷ []) [] (run []
    (numbered 1 codes.Pruned 0 ∷ row 2 codes.Block ∷ numbered 3 codes.Scope 0 ∷ row 4 codes.Block ∷ identified 5 codes.Instruction 0 ∷
    leaf 6 kinds.Primitive [] [] ∷ [])
    ((0, reasons.Scope) ∷ []) (2 ∷ []) ∷ []) ∷
    -- line 1117: TrackingAdded ObjectMethod
    recorded ((0, 0) ∷ []) [] (([], []) ∷ []) (run []
    (identified 1 codes.Instruction 0 ∷ function_leaf 2 kinds.ObjectMethod 0 [] ∷ row 1 codes.Instruction ∷
    leaf 2 kinds.Await (0 ∷ []) [] ∷ row 1 codes.Instruction ∷ leaf 2 kinds.Await (0 ∷ []) [] ∷ [])
    [] (0 ∷ []) ∷ []) ∷
    -- line 1144: TrackingAfterUses ComputedLoad
    recorded ((0, 0) ∷ []) [] [] (run []
    (identified 1 codes.Instruction 0 ∷ leaf 2 kinds.LoadContext (0 ∷ []) (0 ∷ []) ∷ row 1 codes.Instruction ∷
    leaf 2 kinds.Await (0 ∷ []) [] ∷ identified 1 codes.Instruction 0 ∷ leaf 2 kinds.ComputedLoad (0 ∷ 0 ∷ []) (0 ∷ []) ∷ [])
    [] (0 ∷ []) ∷ []) ∷
    -- line 1218: UseOmitted Collect Leaf
    recorded ((0, 0) ∷ []) (([], (0 ∷ []), []) ∷ []) [] (run []
    (numbered 1 codes.Pruned 0 ∷ row 2 codes.Block ∷ numbered 1 codes.Scope 0 ∷ row 2 codes.Block ∷ row 3 codes.Instruction ∷
    leaf 4 kinds.UnaryExpression (0 ∷ []) [] ∷ [])
    ((0, reasons.Escape) ∷ []) (2 ∷ []) ∷ []) ∷
    -- line 1245: MarkIsUse(Collect)
    recorded ((0, 0) ∷ []) (([], (0 ∷ []), []) ∷ []) [] (run []
    (numbered 1 codes.Pruned 0 ∷ row 2 codes.Block ∷ numbered 1 codes.Scope 0 ∷ row 2 codes.Block ∷ row 3 codes.Instruction ∷
    mode_leaf 4 kinds.DeclareContext modes.Const [] (0 ∷ []) ∷ [])
    ((0, reasons.Scope) ∷ []) (2 ∷ []) ∷ []) ∷
    -- line 1276: UseOmitted Collect Case
    recorded ((0, 0) ∷ (1, 0) ∷ []) (([], (0 ∷ []), []) ∷ []) [] (run []
    (numbered 1 codes.Pruned 0 ∷ row 2 codes.Block ∷ numbered 1 codes.Scope 0 ∷ row 2 codes.Block ∷ identified 3 codes.Switch 1 ∷
    identified 4 codes.Case 0 ∷ [])
    ((0, reasons.Escape) ∷ []) (2 ∷ 0 ∷ []) ∷ []) ∷
    -- line 1356: ConstantsKept
    recorded ((0, 0) ∷ (1, 0) ∷ []) [] [] (run (1 ∷ [])
    []
    ((1, reasons.OwnParameter) ∷ []) (0 ∷ 2 ∷ []) ∷ run []
    (identified 1 codes.Instruction 0 ∷ leaf 2 kinds.LoadLocal (1 ∷ []) (1 ∷ []) ∷ row 1 codes.Instruction ∷
    leaf 2 kinds.CallExpression (0 ∷ []) [] ∷ identified 1 codes.Return 0 ∷ [])
    ((0, reasons.Interposed) ∷ []) (2 ∷ 2 ∷ []) ∷ []) ∷
    -- line 1425: GlobalIsConstant
    recorded ((0, 0) ∷ []) [] [] (run []
    (identified 1 codes.Instruction 0 ∷ leaf 2 kinds.LoadGlobal [] [] ∷ identified 1 codes.Instruction 0 ∷
    leaf 2 kinds.LoadLocal (0 ∷ []) (0 ∷ []) ∷ row 1 codes.Instruction ∷ leaf 2 kinds.PropertyDelete (0 ∷ []) [] ∷
    identified 1 codes.Return 0 ∷ [])
    ((0, reasons.Interposed) ∷ []) (2 ∷ []) ∷ []) ∷
    -- line 1428: SequenceInert
    recorded ((0, 0) ∷ []) [] [] (run []
    (identified 1 codes.Instruction 0 ∷ leaf 2 kinds.CallExpression (0 ∷ []) [] ∷ row 1 codes.Instruction ∷ row 2 codes.Sequence ∷
    row 3 codes.Instruction ∷ leaf 4 kinds.CallExpression (0 ∷ []) [] ∷ leaf 3 kinds.CallExpression (0 ∷ []) [] ∷ [])
    ((0, reasons.Interposed) ∷ []) (2 ∷ []) ∷ []) ∷
    -- line 1429: GlobalNotConstant PropertyLoad, GlobalOmitted
    recorded ((0, 0) ∷ []) [] [] (run []
    (identified 1 codes.Instruction 0 ∷ leaf 2 kinds.LoadGlobal [] [] ∷ identified 1 codes.Instruction 0 ∷
    leaf 2 kinds.PropertyLoad (0 ∷ []) (0 ∷ []) ∷ row 1 codes.Instruction ∷ leaf 2 kinds.PropertyDelete (0 ∷ []) [] ∷
    identified 1 codes.Return 0 ∷ [])
    [] (0 ∷ []) ∷ []) ∷
    -- line 1442: LeafActsUnder Conditional
    recorded ((0, 0) ∷ []) [] [] (run []
    (identified 1 codes.Instruction 0 ∷ leaf 2 kinds.StoreGlobal (0 ∷ []) [] ∷ row 1 codes.Instruction ∷ row 2 codes.Conditional ∷
    leaf 3 kinds.StoreGlobal (0 ∷ []) [] ∷ leaf 3 kinds.Primitive [] [] ∷ leaf 3 kinds.FinishMemoize (0 ∷ []) [] ∷ [])
    [] (0 ∷ []) ∷ []) ∷
    -- line 1445: ConstantAdded DeclareContext mode 6
    recorded ((0, 0) ∷ []) [] [] (run []
    (identified 1 codes.Instruction 0 ∷ leaf 2 kinds.PostfixUpdate (0 ∷ []) [] ∷ row 1 codes.Instruction ∷
    leaf 2 kinds.PrefixUpdate (0 ∷ []) [] ∷ row 1 codes.Instruction ∷
    mode_leaf 2 kinds.DeclareContext modes.HoistedFunction [] (0 ∷ []) ∷ identified 1 codes.Return 0 ∷ [])
    ((0, reasons.Interposed) ∷ []) (2 ∷ []) ∷ []) ∷
    -- line 1449: ConstantAdded DeclareLocal mode 5
    recorded ((0, 0) ∷ []) [] [] (run []
    (identified 1 codes.Instruction 0 ∷ leaf 2 kinds.PrefixUpdate (0 ∷ []) [] ∷ row 1 codes.Instruction ∷
    leaf 2 kinds.StoreGlobal (0 ∷ []) [] ∷ row 1 codes.Instruction ∷
    mode_leaf 2 kinds.DeclareLocal modes.HoistedLet [] (0 ∷ []) ∷ identified 1 codes.Return 0 ∷ [])
    ((0, reasons.Interposed) ∷ []) (2 ∷ []) ∷ []) ∷
    -- line 1456: ConstantOmitted DeclareLocal mode 0
    recorded ((0, 0) ∷ []) [] [] (run []
    (row 1 codes.Instruction ∷ mode_leaf 2 kinds.DeclareLocal modes.Const [] (0 ∷ []) ∷ identified 1 codes.Instruction 0 ∷
    mode_leaf 2 kinds.Destructure modes.Const (0 ∷ []) [] ∷ row 1 codes.Instruction ∷
    mode_leaf 2 kinds.Destructure modes.Let (0 ∷ []) [] ∷ identified 1 codes.Return 0 ∷ [])
    [] (0 ∷ []) ∷ []) ∷
    -- line 1484: ConstantOmitted DeclareContext mode 4
    recorded ((0, 0) ∷ []) [] [] (run []
    (row 1 codes.Instruction ∷ mode_leaf 2 kinds.DeclareContext modes.HoistedConst [] (0 ∷ []) ∷ identified 1 codes.Instruction 0 ∷
    leaf 2 kinds.LoadLocal (0 ∷ []) (0 ∷ []) ∷ row 1 codes.Instruction ∷ leaf 2 kinds.CallExpression (0 ∷ []) [] ∷
    identified 1 codes.Return 0 ∷ [])
    [] (0 ∷ []) ∷ []) ∷
    -- line 1485: ConstantOmitted DeclareContext mode 0
    recorded ((0, 0) ∷ []) [] [] (run []
    (row 1 codes.Instruction ∷ mode_leaf 2 kinds.DeclareContext modes.Const [] (0 ∷ []) ∷ identified 1 codes.Instruction 0 ∷
    leaf 2 kinds.LoadLocal (0 ∷ []) (0 ∷ []) ∷ row 1 codes.Instruction ∷ leaf 2 kinds.CallExpression (0 ∷ []) [] ∷
    identified 1 codes.Return 0 ∷ [])
    [] (0 ∷ []) ∷ []) ∷
    -- line 1486: GlobalNotConstant ComputedLoad
    recorded ((0, 0) ∷ []) [] [] (run []
    (identified 1 codes.Instruction 0 ∷ leaf 2 kinds.LoadGlobal [] [] ∷ identified 1 codes.Instruction 0 ∷
    leaf 2 kinds.ComputedLoad (0 ∷ 0 ∷ []) (0 ∷ []) ∷ row 1 codes.Instruction ∷ leaf 2 kinds.PrefixUpdate (0 ∷ []) [] ∷
    identified 1 codes.Return 0 ∷ [])
    [] (0 ∷ []) ∷ []) ∷
    -- line 1487: ConstantAdded DeclareContext mode 7
    recorded ((0, 0) ∷ []) [] [] (run []
    (row 1 codes.Instruction ∷ mode_leaf 2 kinds.DeclareContext modes.Function [] (0 ∷ []) ∷ identified 1 codes.Instruction 0 ∷
    leaf 2 kinds.LoadLocal (0 ∷ []) (0 ∷ []) ∷ row 1 codes.Instruction ∷ leaf 2 kinds.PropertyDelete (0 ∷ []) [] ∷
    identified 1 codes.Return 0 ∷ [])
    ((0, reasons.Interposed) ∷ []) (2 ∷ []) ∷ []) ∷
    -- line 1498: LeafActsUnder Sequence
    recorded ((0, 0) ∷ []) [] [] (run []
    (identified 1 codes.Instruction 0 ∷ leaf 2 kinds.Await (0 ∷ []) [] ∷ row 1 codes.Instruction ∷ row 2 codes.Logical ∷
    row 3 codes.Sequence ∷ leaf 4 kinds.PropertyStore (0 ∷ 0 ∷ []) [] ∷ leaf 3 kinds.FinishMemoize (0 ∷ []) [] ∷ [])
    [] (0 ∷ []) ∷ []) ∷
    -- line 1500: ConstantOmitted DeclareLocal mode 4
    recorded ((0, 0) ∷ []) [] [] (run []
    (row 1 codes.Instruction ∷ mode_leaf 2 kinds.DeclareLocal modes.HoistedConst [] (0 ∷ []) ∷ identified 1 codes.Instruction 0 ∷
    leaf 2 kinds.LoadLocal (0 ∷ []) (0 ∷ []) ∷ row 1 codes.Instruction ∷ leaf 2 kinds.PostfixUpdate (0 ∷ []) [] ∷
    identified 1 codes.Return 0 ∷ [])
    [] (0 ∷ []) ∷ []) ∷
    -- line 1508: ConstantAdded DeclareContext mode 2
    recorded ((0, 0) ∷ []) [] [] (run []
    (row 1 codes.Instruction ∷ mode_leaf 2 kinds.DeclareContext modes.Reassign [] (0 ∷ []) ∷ identified 1 codes.Instruction 0 ∷
    leaf 2 kinds.LoadContext (0 ∷ []) (0 ∷ []) ∷ row 1 codes.Instruction ∷ leaf 2 kinds.PrefixUpdate (0 ∷ []) [] ∷
    identified 1 codes.Return 0 ∷ [])
    ((0, reasons.Interposed) ∷ []) (2 ∷ []) ∷ []) ∷
    -- line 1521: LeafActsUnder While
    recorded ((0, 0) ∷ []) [] [] (run []
    (identified 1 codes.Instruction 0 ∷ mode_leaf 2 kinds.Destructure modes.Const (0 ∷ []) [] ∷ row 1 codes.While ∷
    leaf 2 kinds.PropertyDelete (0 ∷ []) [] ∷ row 2 codes.Block ∷ row 3 codes.Instruction ∷
    leaf 4 kinds.PropertyStore (0 ∷ 0 ∷ []) [] ∷ [])
    [] (0 ∷ []) ∷ []) ∷
    -- line 1529: ConstantAdded DeclareContext mode 3
    recorded ((0, 0) ∷ []) [] [] (run []
    (row 1 codes.Instruction ∷ mode_leaf 2 kinds.DeclareContext modes.Catch [] (0 ∷ []) ∷ identified 1 codes.Instruction 0 ∷
    leaf 2 kinds.LoadLocal (0 ∷ []) (0 ∷ []) ∷ row 1 codes.Instruction ∷ leaf 2 kinds.CallExpression (0 ∷ []) [] ∷
    identified 1 codes.Return 0 ∷ [])
    ((0, reasons.Interposed) ∷ []) (2 ∷ []) ∷ []) ∷
    -- line 1534: ConstantAdded DeclareLocal mode 1
    recorded ((0, 0) ∷ []) [] [] (run []
    (row 1 codes.Instruction ∷ mode_leaf 2 kinds.DeclareLocal modes.Let [] (0 ∷ []) ∷ identified 1 codes.Instruction 0 ∷
    leaf 2 kinds.PropertyLoad (0 ∷ []) (0 ∷ []) ∷ row 1 codes.Instruction ∷ leaf 2 kinds.StoreGlobal (0 ∷ []) [] ∷
    identified 1 codes.Return 0 ∷ [])
    ((0, reasons.Interposed) ∷ []) (2 ∷ []) ∷ []) ∷
    -- line 1538: ConstantAdded DeclareLocal mode 6
    recorded ((0, 0) ∷ []) [] [] (run []
    (row 1 codes.Instruction ∷ mode_leaf 2 kinds.DeclareLocal modes.HoistedFunction [] (0 ∷ []) ∷
    identified 1 codes.Instruction 0 ∷ leaf 2 kinds.LoadLocal (0 ∷ []) (0 ∷ []) ∷ row 1 codes.Instruction ∷
    leaf 2 kinds.CallExpression (0 ∷ []) [] ∷ identified 1 codes.Return 0 ∷ [])
    ((0, reasons.Interposed) ∷ []) (2 ∷ []) ∷ []) ∷
    -- line 1543: ConstantAdded DeclareContext mode 5
    recorded ((0, 0) ∷ []) [] [] (run []
    (row 1 codes.Instruction ∷ mode_leaf 2 kinds.DeclareContext modes.HoistedLet [] (0 ∷ []) ∷ identified 1 codes.Instruction 0 ∷
    leaf 2 kinds.LoadContext (0 ∷ []) (0 ∷ []) ∷ row 1 codes.Instruction ∷ leaf 2 kinds.StoreGlobal (0 ∷ []) [] ∷
    identified 1 codes.Return 0 ∷ [])
    ((0, reasons.Interposed) ∷ []) (2 ∷ []) ∷ []) ∷
    -- line 1545: ConstantAdded DeclareContext mode 1
    recorded ((0, 0) ∷ []) [] [] (run []
    (identified 1 codes.Instruction 0 ∷ leaf 2 kinds.PropertyLoad (0 ∷ []) (0 ∷ []) ∷ row 1 codes.Instruction ∷
    leaf 2 kinds.CallExpression (0 ∷ []) [] ∷ row 1 codes.Instruction ∷ mode_leaf 2 kinds.DeclareContext modes.Let [] (0 ∷ []) ∷
    identified 1 codes.Return 0 ∷ [])
    ((0, reasons.Interposed) ∷ []) (2 ∷ []) ∷ []) ∷
    -- line 1548: ConstantAdded DeclareLocal mode 3
    recorded ((0, 0) ∷ []) [] [] (run []
    (row 1 codes.Instruction ∷ mode_leaf 2 kinds.DeclareLocal modes.Catch [] (0 ∷ []) ∷ identified 1 codes.Instruction 0 ∷
    leaf 2 kinds.LoadLocal (0 ∷ []) (0 ∷ []) ∷ row 1 codes.Instruction ∷ leaf 2 kinds.Await (0 ∷ []) [] ∷
    identified 1 codes.Return 0 ∷ [])
    ((0, reasons.Interposed) ∷ []) (2 ∷ []) ∷ []) ∷
    -- line 1620: ConstantAdded DeclareLocal mode 2
    recorded ((0, 0) ∷ []) [] [] (run []
    (row 1 codes.Instruction ∷ mode_leaf 2 kinds.DeclareLocal modes.Reassign [] (0 ∷ []) ∷ identified 1 codes.Instruction 0 ∷
    leaf 2 kinds.LoadContext (0 ∷ []) (0 ∷ []) ∷ row 1 codes.Instruction ∷ leaf 2 kinds.PropertyStore (0 ∷ 0 ∷ []) [] ∷
    identified 1 codes.Return 0 ∷ [])
    ((0, reasons.Interposed) ∷ []) (2 ∷ []) ∷ []) ∷
    -- line 1622: ConstantAdded DeclareLocal mode 7
    recorded ((0, 0) ∷ []) [] [] (run []
    (row 1 codes.Instruction ∷ mode_leaf 2 kinds.DeclareLocal modes.Function [] (0 ∷ []) ∷ identified 1 codes.Instruction 0 ∷
    leaf 2 kinds.PropertyLoad (0 ∷ []) (0 ∷ []) ∷ row 1 codes.Instruction ∷ leaf 2 kinds.PropertyStore (0 ∷ 0 ∷ []) [] ∷
    identified 1 codes.Return 0 ∷ [])
    ((0, reasons.Interposed) ∷ []) (2 ∷ []) ∷ []) ∷
    -- line 1652: EscapeKept, EscapeAtRow
    recorded ((0, 0) ∷ []) (([], (0 ∷ []), []) ∷ []) [] (run []
    (numbered 1 codes.Pruned 0 ∷ row 2 codes.Block ∷ numbered 3 codes.Scope 0 ∷ row 4 codes.Block ∷ numbered 5 codes.Pruned 0 ∷
    row 6 codes.Block ∷ identified 7 codes.Return 0 ∷ [])
    ((0, reasons.Scope) ∷ []) (2 ∷ []) ∷ []) ∷
    -- line 1654: EscapeNotTakenBack
    recorded ((0, 0) ∷ []) (([], (0 ∷ []), []) ∷ []) [] (run []
    (numbered 1 codes.Pruned 0 ∷ row 2 codes.Block ∷ numbered 3 codes.Scope 0 ∷ row 4 codes.Block ∷ identified 5 codes.Return 0 ∷
    numbered 3 codes.Pruned 0 ∷ row 4 codes.Block ∷ [])
    ((0, reasons.Scope) ∷ []) (2 ∷ []) ∷ []) ∷
    -- line 1749: UseOmitted Interposed Handler
    recorded ((0, 0) ∷ []) [] [] (run []
    (identified 1 codes.Instruction 0 ∷ leaf 2 kinds.Await (0 ∷ []) [] ∷ row 1 codes.Instruction ∷
    leaf 2 kinds.PostfixUpdate (0 ∷ []) [] ∷ row 1 codes.Try ∷ row 2 codes.Block ∷ identified 2 codes.Handler 0 ∷ row 3 codes.Block ∷ [])
    ((0, reasons.Interposed) ∷ []) (2 ∷ []) ∷ []) ∷
    -- line 1774: ConstantHandedToNamed LoadLocal
    recorded ((0, 0) ∷ (1, 0) ∷ (2, 1) ∷ []) [] [] (run (0 ∷ [])
    (identified 1 codes.Instruction 2 ∷ leaf 2 kinds.LoadLocal (0 ∷ []) (0 ∷ []) ∷ identified 1 codes.Instruction 1 ∷
    leaf 2 kinds.LoadLocal (2 ∷ []) (2 ∷ []) ∷ row 1 codes.Instruction ∷ leaf 2 kinds.PrefixUpdate (0 ∷ []) [] ∷
    identified 1 codes.Return 1 ∷ [])
    ((0, reasons.OwnParameter) ∷ (1, reasons.Interposed) ∷ []) (2 ∷ 2 ∷ 1 ∷ []) ∷ []) ∷
    -- line 1775: ConstantHandedToNamed LoadContext
    recorded ((0, 0) ∷ (1, 1) ∷ (2, 0) ∷ []) [] [] (run (0 ∷ [])
    (identified 1 codes.Instruction 1 ∷ leaf 2 kinds.LoadContext (0 ∷ []) (0 ∷ []) ∷ identified 1 codes.Instruction 2 ∷
    leaf 2 kinds.LoadLocal (1 ∷ []) (1 ∷ []) ∷ row 1 codes.Instruction ∷ leaf 2 kinds.CallExpression (0 ∷ []) [] ∷
    identified 1 codes.Return 2 ∷ [])
    ((0, reasons.OwnParameter) ∷ (2, reasons.Interposed) ∷ []) (2 ∷ 1 ∷ 2 ∷ []) ∷ []) ∷
    -- line 1797: EscapeByScopeRow
    recorded ((0, 0) ∷ []) (([], [], []) ∷ ([], (0 ∷ []), []) ∷ []) [] (run []
    (numbered 1 codes.Scope 0 ∷ row 2 codes.Block ∷ numbered 3 codes.Pruned 1 ∷ row 4 codes.Block ∷ numbered 3 codes.Scope 0 ∷
    row 4 codes.Block ∷ identified 5 codes.Return 0 ∷ [])
    [] (0 ∷ []) ∷ []) ∷
    -- line 1871: UseOmitted Collect Handler
    recorded ((0, 0) ∷ []) (([], (0 ∷ []), []) ∷ []) [] (run []
    (numbered 1 codes.Pruned 0 ∷ row 2 codes.Block ∷ numbered 1 codes.Scope 0 ∷ row 2 codes.Block ∷ row 3 codes.Try ∷ row 4 codes.Block ∷
    identified 4 codes.Handler 0 ∷ row 5 codes.Block ∷ [])
    ((0, reasons.Escape) ∷ []) (2 ∷ []) ∷ []) ∷
    -- line 1873: GlobalsKept
    recorded ((0, 0) ∷ []) [] [] (run []
    (identified 1 codes.Instruction 0 ∷ leaf 2 kinds.LoadGlobal [] [] ∷ [])
    [] (0 ∷ []) ∷ run []
    (identified 1 codes.Instruction 0 ∷ leaf 2 kinds.PropertyLoad (0 ∷ []) (0 ∷ []) ∷ row 1 codes.Instruction ∷
    leaf 2 kinds.CallExpression (0 ∷ []) [] ∷ identified 1 codes.Return 0 ∷ [])
    ((0, reasons.Interposed) ∷ []) (2 ∷ []) ∷ []) ∷
    -- line 1919: OperandsReversed(Interposed)
    recorded ((0, 0) ∷ (1, 0) ∷ []) [] [] (run []
    (identified 1 codes.Instruction 1 ∷ leaf 2 kinds.Await (0 ∷ []) [] ∷ identified 1 codes.Instruction 0 ∷
    leaf 2 kinds.CallExpression (0 ∷ []) [] ∷ row 1 codes.Instruction ∷ leaf 2 kinds.CallExpression (0 ∷ []) [] ∷
    row 1 codes.Instruction ∷ leaf 2 kinds.CallExpression (1 ∷ 0 ∷ []) [] ∷ [])
    ((1, reasons.Interposed) ∷ (0, reasons.Interposed) ∷ []) (2 ∷ 2 ∷ []) ∷ []) ∷
    -- line 1973: EscapeByInnermostRecorded
    recorded ((0, 0) ∷ []) (([], [], []) ∷ ([], [], []) ∷ ([], (0 ∷ []), []) ∷ []) [] (run []
    (numbered 1 codes.Scope 1 ∷ row 2 codes.Block ∷ numbered 3 codes.Scope 0 ∷ row 4 codes.Block ∷ numbered 5 codes.Pruned 2 ∷
    row 6 codes.Block ∷ identified 3 codes.Return 0 ∷ [])
    [] (0 ∷ []) ∷ []) ∷
    -- line 2018: GlobalByOthers
    recorded ((0, 0) ∷ (1, 0) ∷ []) [] [] (run []
    (identified 1 codes.Instruction 1 ∷ leaf 2 kinds.CallExpression (1 ∷ []) [] ∷ identified 1 codes.Instruction 0 ∷
    leaf 2 kinds.ComputedLoad (1 ∷ 1 ∷ []) (1 ∷ []) ∷ row 1 codes.Instruction ∷
    mode_leaf 2 kinds.StoreLocal modes.HoistedLet (0 ∷ []) (0 ∷ []) ∷ row 1 codes.Instruction ∷
    leaf 2 kinds.CallExpression (0 ∷ 1 ∷ []) [] ∷ [])
    ((0, reasons.Interposed) ∷ (1, reasons.Interposed) ∷ []) (2 ∷ 2 ∷ []) ∷ []) ∷
    -- line 2019: GlobalByLoads
    recorded ((0, 0) ∷ (1, 0) ∷ []) [] [] (run []
    (identified 1 codes.Instruction 0 ∷ leaf 2 kinds.LoadLocal (0 ∷ []) (0 ∷ []) ∷ identified 1 codes.Instruction 1 ∷
    leaf 2 kinds.PropertyLoad (0 ∷ []) (0 ∷ []) ∷ row 1 codes.Instruction ∷ leaf 2 kinds.PostfixUpdate (1 ∷ []) [] ∷
    row 1 codes.Instruction ∷ leaf 2 kinds.ComputedStore (0 ∷ 1 ∷ 1 ∷ []) [] ∷ [])
    ((0, reasons.Interposed) ∷ (1, reasons.Interposed) ∷ []) (2 ∷ 2 ∷ []) ∷ []) ∷
    -- line 2122: GlobalNotHandedOn PropertyLoad
    recorded ((0, 0) ∷ (1, 0) ∷ []) [] [] (run []
    (identified 1 codes.Instruction 1 ∷ leaf 2 kinds.LoadGlobal [] [] ∷ identified 1 codes.Instruction 0 ∷
    leaf 2 kinds.PropertyLoad (1 ∷ []) (1 ∷ []) ∷ identified 1 codes.Instruction 1 ∷
    leaf 2 kinds.PropertyLoad (0 ∷ []) (0 ∷ []) ∷ row 1 codes.Instruction ∷ leaf 2 kinds.PrefixUpdate (0 ∷ []) [] ∷
    identified 1 codes.Return 1 ∷ [])
    [] (0 ∷ 0 ∷ []) ∷ []) ∷
    -- line 2124: GlobalNotToNamed PropertyLoad
    recorded ((0, 1) ∷ (1, 0) ∷ []) [] [] (run []
    (identified 1 codes.Instruction 0 ∷ leaf 2 kinds.LoadGlobal [] [] ∷ identified 1 codes.Instruction 0 ∷
    leaf 2 kinds.PropertyLoad (0 ∷ []) (0 ∷ []) ∷ identified 1 codes.Instruction 1 ∷
    leaf 2 kinds.LoadLocal (0 ∷ []) (0 ∷ []) ∷ row 1 codes.Instruction ∷ leaf 2 kinds.PrefixUpdate (0 ∷ []) [] ∷
    identified 1 codes.Return 1 ∷ [])
    [] (1 ∷ 0 ∷ []) ∷ []) ∷
    -- line 2144: LookedAtBeforeUses
    recorded ((0, 0) ∷ (1, 0) ∷ []) [] [] (run []
    (identified 1 codes.Instruction 1 ∷ leaf 2 kinds.LoadLocal (0 ∷ []) (0 ∷ []) ∷ row 1 codes.Instruction ∷
    leaf 2 kinds.PrefixUpdate (0 ∷ []) [] ∷ identified 1 codes.Instruction 0 ∷ leaf 2 kinds.LoadLocal (0 ∷ []) (0 ∷ []) ∷
    identified 1 codes.Instruction 1 ∷ leaf 2 kinds.PostfixUpdate (1 ∷ []) [] ∷ identified 1 codes.Return 0 ∷ [])
    ((1, reasons.Interposed) ∷ (0, reasons.Interposed) ∷ []) (2 ∷ 2 ∷ []) ∷ []) ∷
    -- line 2150: GlobalNotToNamed ComputedLoad
    recorded ((0, 1) ∷ (1, 0) ∷ []) [] [] (run []
    (identified 1 codes.Instruction 0 ∷ leaf 2 kinds.LoadGlobal [] [] ∷ identified 1 codes.Instruction 0 ∷
    leaf 2 kinds.ComputedLoad (0 ∷ 1 ∷ []) (0 ∷ []) ∷ identified 1 codes.Instruction 1 ∷
    leaf 2 kinds.LoadContext (0 ∷ []) (0 ∷ []) ∷ row 1 codes.Instruction ∷ leaf 2 kinds.PrefixUpdate (0 ∷ []) [] ∷
    identified 1 codes.Return 1 ∷ [])
    [] (1 ∷ 0 ∷ []) ∷ []) ∷
    -- line 2158: GlobalNotHandedOn ComputedLoad
    recorded ((0, 0) ∷ (1, 0) ∷ []) [] [] (run []
    (identified 1 codes.Instruction 0 ∷ leaf 2 kinds.LoadGlobal [] [] ∷ identified 1 codes.Instruction 1 ∷
    leaf 2 kinds.ComputedLoad (0 ∷ 0 ∷ []) (0 ∷ []) ∷ identified 1 codes.Instruction 0 ∷
    leaf 2 kinds.PropertyLoad (1 ∷ []) (1 ∷ []) ∷ row 1 codes.Instruction ∷ leaf 2 kinds.CallExpression (0 ∷ []) [] ∷
    identified 1 codes.Return 0 ∷ [])
    [] (0 ∷ 0 ∷ []) ∷ []) ∷
    -- line 2206: EscapeByAnyActive
    recorded ((0, 0) ∷ []) (([], [], []) ∷ ([], (0 ∷ []), []) ∷ []) [] (run []
    (numbered 1 codes.Scope 0 ∷ row 2 codes.Block ∷ numbered 3 codes.Pruned 1 ∷ row 4 codes.Block ∷ numbered 1 codes.Scope 1 ∷
    row 2 codes.Block ∷ numbered 3 codes.Scope 0 ∷ row 4 codes.Block ∷ identified 5 codes.Return 0 ∷ [])
    ((0, reasons.Scope) ∷ []) (2 ∷ []) ∷ []) ∷
    -- line 2340: InstancesOfCovered
    recorded ((0, 0) ∷ (5, 0) ∷ (2, 0) ∷ (4, 0) ∷ (4, 1) ∷ (5, 0) ∷ (1, 1) ∷ (5, 1) ∷ []) (((3 ∷ 7 ∷ 3 ∷ []), [], (7 ∷ 7 ∷ [])) ∷ ((7 ∷ 7 ∷ 7 ∷ []), [], (4 ∷ 7 ∷ 7 ∷ [])) ∷ ((7 ∷ 7 ∷ 7 ∷ []), (7 ∷ 1 ∷ []), (1 ∷ 7 ∷ [])) ∷ []) (((2 ∷ []), []) ∷ []) (run []
    (identified 1 codes.Instruction 7 ∷ row 2 codes.Sequence ∷ identified 3 codes.Instruction 3 ∷ row 4 codes.Sequence ∷
    leaf 5 kinds.LoadGlobal [] [] ∷ identified 3 codes.Instruction 5 ∷ leaf 4 kinds.CallExpression (2 ∷ []) [] ∷
    identified 3 codes.Instruction 7 ∷ function_leaf 4 kinds.FunctionExpression 0 (1 ∷ 5 ∷ []) ∷
    mode_leaf 3 kinds.Destructure modes.Let (7 ∷ []) (7 ∷ 7 ∷ []) ∷ [])
    ((2, reasons.InnerParameter) ∷ []) (0 ∷ 0 ∷ 2 ∷ 0 ∷ 1 ∷ 0 ∷ 1 ∷ 1 ∷ []) ∷ run (7 ∷ [])
    (numbered 1 codes.Pruned 2 ∷ row 2 codes.Block ∷ identified 3 codes.Instruction 5 ∷ leaf 4 kinds.LoadLocal (1 ∷ []) (1 ∷ []) ∷
    identified 3 codes.Instruction 5 ∷ leaf 4 kinds.JsxExpression (5 ∷ 7 ∷ []) (5 ∷ []) ∷ row 3 codes.Try ∷ row 4 codes.Block ∷
    identified 4 codes.Handler 1 ∷ row 5 codes.Block ∷ [])
    [] (0 ∷ 0 ∷ 2 ∷ 0 ∷ 1 ∷ 0 ∷ 1 ∷ 1 ∷ []) ∷ []) ∷
    -- line 2502: EscapeByLastUse
    recorded ((0, 0) ∷ (2, 0) ∷ (0, 0) ∷ (3, 0) ∷ (4, 0) ∷ (5, 0) ∷ []) (((3 ∷ 3 ∷ 3 ∷ []), (3 ∷ []), []) ∷ ((4 ∷ []), (3 ∷ []), (1 ∷ 3 ∷ [])) ∷ ((3 ∷ []), (5 ∷ []), (4 ∷ 3 ∷ 1 ∷ [])) ∷ ([], (3 ∷ 3 ∷ 3 ∷ []), (3 ∷ [])) ∷ []) (((4 ∷ 4 ∷ []), (1 ∷ 1 ∷ 1 ∷ [])) ∷ ([], []) ∷ []) (run (2 ∷ [])
    (numbered 1 codes.Pruned 0 ∷ row 2 codes.Block ∷ row 3 codes.Instruction ∷ leaf 4 kinds.TaggedTemplateExpression (3 ∷ []) [] ∷
    numbered 1 codes.Scope 1 ∷ row 2 codes.Block ∷ numbered 3 codes.Scope 0 ∷ row 4 codes.Block ∷ identified 5 codes.Switch 3 ∷
    row 6 codes.Case ∷ identified 1 codes.Instruction 3 ∷ leaf 2 kinds.JsxFragment (3 ∷ 3 ∷ []) [] ∷ [])
    ((2, reasons.OwnParameter) ∷ (3, reasons.Escape) ∷ (4, reasons.Scope) ∷ []) (0 ∷ 0 ∷ 2 ∷ 2 ∷ 2 ∷ 0 ∷ []) ∷ []) ∷
    -- line 2569: ScopeStaysActive
    recorded ((0, 0) ∷ (1, 0) ∷ (2, 0) ∷ (3, 0) ∷ (4, 0) ∷ (5, 0) ∷ []) (([], (4 ∷ 2 ∷ []), []) ∷ []) (((1 ∷ []), (1 ∷ [])) ∷ ((0 ∷ []), []) ∷ []) (run []
    (numbered 1 codes.Pruned 0 ∷ row 2 codes.Block ∷ row 3 codes.Try ∷ row 4 codes.Block ∷ identified 4 codes.Handler 4 ∷ row 5 codes.Block ∷
    numbered 1 codes.Scope 0 ∷ row 2 codes.Block ∷ row 3 codes.Instruction ∷ leaf 4 kinds.FinishMemoize (4 ∷ []) [] ∷
    identified 1 codes.If 2 ∷ row 2 codes.Block ∷ numbered 3 codes.Scope 0 ∷ row 4 codes.Block ∷ identified 5 codes.Switch 3 ∷
    row 6 codes.Case ∷ identified 5 codes.Instruction 3 ∷ leaf 6 kinds.CallExpression (3 ∷ 4 ∷ []) [] ∷
    identified 5 codes.Instruction 3 ∷ leaf 6 kinds.CallExpression (3 ∷ []) [] ∷ [])
    ((4, reasons.Escape) ∷ (2, reasons.Scope) ∷ []) (0 ∷ 0 ∷ 2 ∷ 0 ∷ 2 ∷ 0 ∷ []) ∷ []) ∷
    []
