-- The numbers of kinds and modes. Assumes nothing.
use Rattle.std.specs.Prelude.{ℕ}
use Rattle.reactive.specs.declared.kind.Kind.{Kind}
use Rattle.reactive.specs.declared.kind.Kind.TheVariants as kinds
use Rattle.reactive.specs.declared.mode.Mode.{Mode}
use Rattle.reactive.specs.declared.mode.Mode.TheVariants as modes

-- the byte that stands for a kind in a Leaf
abbrev pub kind_number : Kind → ℕ
kind_number kinds.LoadLocal = 0
kind_number kinds.LoadContext = 1
kind_number kinds.DeclareLocal = 2
kind_number kinds.DeclareContext = 3
kind_number kinds.StoreLocal = 4
kind_number kinds.StoreContext = 5
kind_number kinds.Destructure = 6
kind_number kinds.Primitive = 7
kind_number kinds.JSXText = 8
kind_number kinds.BinaryExpression = 9
kind_number kinds.NewExpression = 10
kind_number kinds.CallExpression = 11
kind_number kinds.MethodCall = 12
kind_number kinds.UnaryExpression = 13
kind_number kinds.TypeCastExpression = 14
kind_number kinds.JsxExpression = 15
kind_number kinds.ObjectExpression = 16
kind_number kinds.ObjectMethod = 17
kind_number kinds.ArrayExpression = 18
kind_number kinds.JsxFragment = 19
kind_number kinds.RegExpLiteral = 20
kind_number kinds.MetaProperty = 21
kind_number kinds.PropertyStore = 22
kind_number kinds.PropertyLoad = 23
kind_number kinds.PropertyDelete = 24
kind_number kinds.ComputedStore = 25
kind_number kinds.ComputedLoad = 26
kind_number kinds.ComputedDelete = 27
kind_number kinds.LoadGlobal = 28
kind_number kinds.StoreGlobal = 29
kind_number kinds.FunctionExpression = 30
kind_number kinds.TaggedTemplateExpression = 31
kind_number kinds.TemplateLiteral = 32
kind_number kinds.Await = 33
kind_number kinds.GetIterator = 34
kind_number kinds.IteratorNext = 35
kind_number kinds.NextPropertyOf = 36
kind_number kinds.PrefixUpdate = 37
kind_number kinds.PostfixUpdate = 38
kind_number kinds.Debugger = 39
kind_number kinds.StartMemoize = 40
kind_number kinds.FinishMemoize = 41

-- the byte that stands for a mode in a Leaf
abbrev pub mode_number : Mode → ℕ
mode_number modes.Const = 0
mode_number modes.Let = 1
mode_number modes.Reassign = 2
mode_number modes.Catch = 3
mode_number modes.HoistedConst = 4
mode_number modes.HoistedLet = 5
mode_number modes.HoistedFunction = 6
mode_number modes.Function = 7
