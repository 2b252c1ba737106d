-- Document 01's kinds of objects: the code of each, and what a code says. Assumes nothing.
use Rattle.std.specs.Prelude.{◌≡◌, Bool, true, false, cond, ◌&&◌, ℕ, eqb, leb, Option, Some, None}
use Rattle.carv_objects_spec.specs.declared.kind.Kind.{Kind}
use Rattle.carv_objects_spec.specs.declared.kind.Kind.TheVariants.{Thread, AddressSpace, Frame, Endpoint, Notification, Budget, Reply, Irq, IrqControl}

-- "1 Thread 33,792; 2 AddressSpace 16,384; 3 Frame 4,096; 4 Endpoint 128; 5 Notification 64; 6 Budget 128; 7 Reply 64; 8 Irq 64; 9 IrqControl 64": each kind's code
abbrev pub code : Kind → ℕ
code Thread = 1
code AddressSpace = 2
code Frame = 3
code Endpoint = 4
code Notification = 5
code Budget = 6
code Reply = 7
code Irq = 8
code IrqControl = 9

-- "every code is a listed one"
abbrev pub listed : ℕ → Bool
listed n = leb 1 n && leb n 9

-- the kind of a code. Question 4 stands in front of one that isn't listed
abbrev pub kind_of : ℕ → Kind
kind_of n =
    cond (eqb n 1) Thread
    (cond (eqb n 2) AddressSpace
    (cond (eqb n 3) Frame
    (cond (eqb n 4) Endpoint
    (cond (eqb n 5) Notification
    (cond (eqb n 6) Budget
    (cond (eqb n 7) Reply
    (cond (eqb n 8) Irq IrqControl)))))))

-- is it the kind whose code is n, or none where n isn't listed?
abbrev pub Named : ℕ → Option Kind → Type 0
Named n (Some k) = code k ≡ n
Named n None = listed n ≡ false

-- the bytes that an object of each is charged, in the line of 01 above
abbrev pub bytes_of : Kind → ℕ
bytes_of Thread = 33_792
bytes_of AddressSpace = 16_384
bytes_of Frame = 4_096
bytes_of Endpoint = 128
bytes_of Notification = 64
bytes_of Budget = 128
bytes_of Reply = 64
bytes_of Irq = 64
bytes_of IrqControl = 64

-- "the kind must be 2, 3, 4, 5 or 7"
abbrev pub creatable : Kind → Bool
creatable Thread = false
creatable AddressSpace = true
creatable Frame = true
creatable Endpoint = true
creatable Notification = true
creatable Budget = false
creatable Reply = true
creatable Irq = false
creatable IrqControl = false

-- "for 2 and 3, the backing must be there"
abbrev pub needs_backing : Kind → Bool
needs_backing Thread = false
needs_backing AddressSpace = true
needs_backing Frame = true
needs_backing Endpoint = false
needs_backing Notification = false
needs_backing Budget = false
needs_backing Reply = false
needs_backing Irq = false
needs_backing IrqControl = false

-- "6 Budget"
abbrev pub is_budget_kind : Kind → Bool
is_budget_kind Thread = false
is_budget_kind AddressSpace = false
is_budget_kind Frame = false
is_budget_kind Endpoint = false
is_budget_kind Notification = false
is_budget_kind Budget = true
is_budget_kind Reply = false
is_budget_kind Irq = false
is_budget_kind IrqControl = false
