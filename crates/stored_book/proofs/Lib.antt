mod Alls
