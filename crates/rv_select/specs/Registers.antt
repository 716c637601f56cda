-- The registers of the machine.
use Rattle.std.specs.Prelude.{ℕ}
use Rattle.rv_select.specs.declared.register.Register.{Register}
use Rattle.rv_select.specs.declared.register.Register.TheVariants as register

abbrev pub register_number : Register → ℕ
register_number register.Zero = 0
register_number register.Back = 1
register_number register.Top = 2
register_number register.Store = 3
register_number register.StoreEnd = 4
register_number register.First = 5
register_number register.Second = 6
register_number register.Caller = 7
register_number register.StackEnd = 8
register_number register.Table = 9
register_number register.Value = 10
register_number register.Words = 11
register_number register.A2 = 12
register_number register.A3 = 13
register_number register.A4 = 14
register_number register.A5 = 15
register_number register.A6 = 16
register_number register.Service = 17
register_number register.Frame = 18
register_number register.S3 = 19
register_number register.S4 = 20
register_number register.S5 = 21
register_number register.S6 = 22
register_number register.S7 = 23
register_number register.S8 = 24
register_number register.S9 = 25
register_number register.S10 = 26
register_number register.S11 = 27
register_number register.T3 = 28
register_number register.T4 = 29
register_number register.T5 = 30
register_number register.Far = 31
