-- How the kinds of Leaf are treated directly under an Instruction. Assumes nothing.
use Rattle.std.specs.Prelude.{ℕ, Bool, not, ◌&&◌, ◌||◌, ◌==◌}

-- LoadLocal, LoadContext
abbrev pub is_load : ℕ → Bool
is_load k = k == 0 || k == 1

-- PropertyLoad, ComputedLoad
abbrev pub is_property_load : ℕ → Bool
is_property_load k = k == 23 || k == 26

-- LoadGlobal
abbrev pub is_global_load : ℕ → Bool
is_global_load k = k == 28

-- StoreLocal, StoreContext, Destructure
abbrev pub is_store : ℕ → Bool
is_store k = k == 4 || (k == 5 || k == 6)

-- the modes Const and HoistedConst
abbrev pub is_constant : ℕ → Bool
is_constant mode = mode == 0 || mode == 4

-- the stores, CallExpression, MethodCall, PropertyStore, PropertyDelete, ComputedStore, ComputedDelete, StoreGlobal, Await, PrefixUpdate, PostfixUpdate
abbrev pub is_barrier : ℕ → Bool
is_barrier k =
    is_store k || (k == 11 || (k == 12 || (k == 22 || (k == 24 || (k == 25 || (k == 27 || (k == 29 || (k == 33 || (k == 37 || k == 38)))))))))

-- the marks become constant
abbrev pub fixes_marks : ℕ → ℕ → Bool
fixes_marks k mode = k == 12 || ((k == 2 || (k == 3 || is_store k)) && is_constant mode)

-- a barrier is raised, if the lvalue is absent or named
abbrev pub may_raise : ℕ → ℕ → Bool
may_raise k mode = is_barrier k && not (is_store k && is_constant mode)
