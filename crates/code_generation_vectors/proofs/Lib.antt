mod Plannable
